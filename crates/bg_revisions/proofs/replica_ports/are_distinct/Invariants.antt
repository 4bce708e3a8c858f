use Rattle.std.proofs.Common.{◌≡◌, drop}
use Rattle.bg_revisions.specs.PortLists.{are_distinct}
use Rattle.bg_revisions.proofs.replica_ports.are_distinct.Given as goal

abbrev pub invariant-loop-place : goal.invariant-loop-place
invariant-loop-place l = are_distinct (drop l.place l.ports) ≡ are_distinct l.ports
