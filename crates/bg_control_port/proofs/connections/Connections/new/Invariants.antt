use Rattle.std.proofs.Common.{◌≡◌, None, replicate}
use Rattle.bg_control_port.proofs.connections.Connections.new.Given as goal

-- so many places are there, and all of them are free
abbrev pub invariant-loop : goal.invariant-loop
invariant-loop g l = l.places.items ≡ replicate l.counter None
