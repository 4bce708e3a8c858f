use Rattle.std.proofs.Common.{◌≡◌, ◌++◌, List, vec_len}
use Rattle.bg_ledger.specs.declared.holding.Holding.{Holding}
use Rattle.bg_rollout.proofs.rollout.lifecycle.reunite_all.Given as goal

-- those that were taken off the ends are equal
abbrev pub invariant-loop-record : goal.invariant-loop-record
invariant-loop-record g l = (rest : List Holding) × ((l.fn.records.items ≡ l.records.items ++ rest) × (l.fn.seats.items ≡ l.seats.items ++ rest))

abbrev pub decreases-loop-record : goal.decreases-loop-record
decreases-loop-record g l = vec_len l.records
