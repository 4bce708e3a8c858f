use Rattle.std.proofs.Common.{◌≡◌}
use Rattle.bg_rollout.specs.Gathering.{indices}
use Rattle.bg_book.specs.Runs.{LeavesAll}
use Rattle.bg_book.proofs.SeatsOut.{OutBefore}
use Rattle.bg_book.proofs.book.Book.leave_all.Given as goal

abbrev pub invariant-loop-place : goal.invariant-loop-place
invariant-loop-place g l =
    LeavesAll l.initial.self l.initial.seats l.place l.self l.seats
    × OutBefore l.place l.seats
    × (indices l.seats ≡ indices l.initial.seats)
