use Rattle.std.proofs.Common.{arith}
use Rattle.bg_rollout.proofs.Linked.{all_owned}
use Rattle.bg_rollout.proofs.request_lists.unowned.Goals as goal

pub unreachable-requires : goal.unreachable-requires
unreachable-requires c =
    absurd (omega (arith, c.requires, all_owned 64 c.args.owned.now (λ l low. c.loop-list.invariant l (omega (arith, low, c.loop-list-test.false)))))
