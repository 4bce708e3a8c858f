use Rattle.std.proofs.Common.{◌≡◌, ◌≤◌, ◌+◌, ◌*◌, length, sym, subst, arith}
use Rattle.bg_rollout.specs.Refusals.{all_open}
use Rattle.bg_rollout.specs.Invariant.{RolloutModel}
use Rattle.bg_rollout.proofs.rollout.Rollout.judge.Goals as goal

-- the past is short, in the fields of the rollout
short_inside : (inside now : RolloutModel) → inside ≡ now → length now.routing.past + 3 * all_open now.routing.past ≤ 1000000 → length inside.routing.past + 3 * all_open inside.routing.past ≤ 1000000
short_inside inside now is short = subst (λ (m : RolloutModel). length m.routing.past + 3 * all_open m.routing.past ≤ 1000000) (sym is) short

pub overflow_add-len : goal.overflow_add-len
overflow_add-len g c = omega (arith, short_inside _ _ c.self.view_is c.requires, c.len.ensures)
