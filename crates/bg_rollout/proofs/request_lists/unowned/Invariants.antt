use Rattle.std.proofs.Common.{◌≡◌, ◌<◌, ℕ, true}
use Rattle.bg_rollout.specs.RequestLists.{is_owned}
use Rattle.bg_rollout.proofs.request_lists.unowned.Given as goal

-- a revision uses each list before the counter
abbrev pub invariant-loop-list : goal.invariant-loop-list
invariant-loop-list l = (k : ℕ) → k < l.list → is_owned k l.owned ≡ true
