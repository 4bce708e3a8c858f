use Rattle.std.proofs.Common.{◌≡◌, ◌≤◌, drop, false, length}
use Rattle.std.specs.List.{AllByRecursion}
use Rattle.bg_endpoint_side.specs.KeptLists.{has_port}
use Rattle.bg_endpoint_side.proofs.kept_connections.last_place_to.Given as goal

-- no connection from the place on is one to the port
abbrev pub invariant-loop-place : goal.invariant-loop-place
invariant-loop-place l =
    (l.place ≤ length l.connections) × AllByRecursion (λ one. has_port l.port one ≡ false) (drop l.place l.connections)

abbrev pub decreases-loop-place : goal.decreases-loop-place
decreases-loop-place l = l.place
