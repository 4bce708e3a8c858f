use Rattle.std.proofs.Common.{◌≡◌, take, length, vec_len, vec_capacity, ◌≤◌}
use Rattle.bg_rollout.specs.Gathering.{indices}
use Rattle.bg_book.specs.Runs.{Runs}
use Rattle.bg_book.proofs.book.Book.run.Given as goal

abbrev pub invariant-loop-call : goal.invariant-loop-call
invariant-loop-call g l =
    Runs l.initial.self l.initial.seats (take l.call-index l.calls) l.replies.items l.self l.seats
    × (indices l.seats ≡ indices l.initial.seats)
    × (vec_len l.replies ≡ l.call-index)
    × (length l.calls ≤ vec_capacity l.replies)
