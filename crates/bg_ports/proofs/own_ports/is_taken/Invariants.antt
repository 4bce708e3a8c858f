use Rattle.std.proofs.Common.{take}
use Rattle.std.specs.Prelude.{All}
use Rattle.bg_ports.specs.OwnPorts.{Takes}
use Rattle.bg_ports.proofs.own_ports.is_taken.Given as goal

-- no listener so far takes the connections to the address
abbrev pub invariant-loop-own : goal.invariant-loop-own
invariant-loop-own l = All (λ own. Takes own l.address l.is_here → ⊥) (take l.own-index l.listeners)
