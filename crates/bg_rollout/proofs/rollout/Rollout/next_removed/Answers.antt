use Rattle.std.proofs.Common.{◌≡◌, ℕ, List, length, find, filter, Option, Some, None, sym, ap, ◌∙◌, subst, arith}
use Rattle.std.specs.Option.{option_map}
use Rattle.bg_revisions.specs.declared.revision.Revision.{Revision}
use Rattle.bg_history.specs.Deadlines.{old_revisions, may_remove}
use Rattle.bg_history.specs.Sizes.{existing}
use Rattle.bg_history.specs.Selections.{selectors_of}
use Rattle.bg_revisions.specs.declared.revision.Selectors.{Selectors}
use Rattle.bg_history_laws.specs.Removals.{first_of}
use Rattle.bg_rollout.specs.declared.rollout.Rollout.TheInside.{Inside}
use Rattle.bg_rollout.specs.Settling.{old_among}
use Rattle.bg_rollout.specs.Invariant.{RolloutModel, PartsRepresent, model_of, parts_of}
use Rattle.bg_rollout.proofs.Settlements.Old.{old_counted, old_first, none_removed, first_removed}
use Rattle.bg_rollout.proofs.rollout.Rollout.next_removed.Goals as goal

-- the selectors are those of the past, in the fields of the rollout
selected_inside : (inside now : RolloutModel) (x : Selectors) → inside ≡ now → x ≡ selectors_of now.routing.past → x ≡ selectors_of inside.routing.past
selected_inside inside now x is selected = subst (λ (m : RolloutModel). x ≡ selectors_of m.routing.past) (sym is) selected

-- the next revision to remove is that of the past
removed_now : (inside now : RolloutModel) (answer : Option ℕ) → inside ≡ now
    → answer ≡ find (λ r. may_remove inside.routing.strategy r inside.routing.past) (existing inside.routing.past)
    → answer ≡ find (λ r. may_remove now.routing.strategy r now.routing.past) (existing now.routing.past)
removed_now inside now answer is h = subst (λ (m : RolloutModel). answer ≡ find (λ r. may_remove m.routing.strategy r m.routing.past) (existing m.routing.past)) is h

-- the number of old revisions is the count
counted : {N : Type 0} (inside : Inside N) (now : RolloutModel) (x : Selectors) (revisions : List Revision) (n : ℕ) → PartsRepresent (model_of inside).routing (parts_of inside) → model_of inside ≡ now
    → x ≡ selectors_of now.routing.past → revisions ≡ inside.roster.revisions → n ≡ length (filter (old_among x) revisions) → n ≡ length (old_revisions inside.strategy inside.history.past)
counted inside now x revisions n represents is selected same count =
    count ∙ old_counted inside.strategy inside.history.opening inside.history.past revisions x (same ∙ represents.revisions) (selected_inside (model_of inside) now x is selected)

-- the first old revision is the one found
found : {N : Type 0} (inside : Inside N) (now : RolloutModel) (x : Selectors) (revisions : List Revision) → PartsRepresent (model_of inside).routing (parts_of inside) → model_of inside ≡ now
    → x ≡ selectors_of now.routing.past → revisions ≡ inside.roster.revisions
    → option_map (λ (v : Revision). v.number) (find (old_among x) revisions) ≡ first_of (old_revisions inside.strategy inside.history.past)
found inside now x revisions represents is selected same =
    old_first inside.strategy inside.history.opening inside.history.past revisions x (same ∙ represents.revisions) (selected_inside (model_of inside) now x is selected)

pub returns-then-count_old-self : goal.returns-then-count_old-self
returns-then-count_old-self g c =
    let b = (model_of c.self.inside).routing in
    let count = counted c.self.inside _ c.args.selectors _ c.count_old.result c.self.invariant c.self.view_is c.requires c.as_slice-revisions.ensures c.count_old.ensures in
    removed_now _ _ None c.self.view_is
    (none_removed b.strategy.history_limit c.count_old.result (old_revisions b.strategy b.past) _ (c.oldest_is_removed.ensures b.strategy b.past) count (omega (arith, c.if-count_old-self.true)))

pub returns-in-Some : goal.returns-in-Some
returns-in-Some g c =
    let b = (model_of c.self.inside).routing in
    let count = counted c.self.inside _ c.args.selectors _ c.count_old.result c.self.invariant c.self.view_is c.requires c.as_slice-revisions.ensures c.count_old.ensures in
    removed_now _ _ (Some c.in-Some.revision.now.number) c.self.view_is
    (ap (option_map (λ (v : Revision). v.number)) c.in-Some.ensures
    ∙ found c.self.inside _ c.args.selectors _ c.self.invariant c.self.view_is c.requires c.as_slice-revisions.ensures
    ∙ first_removed b.strategy.history_limit c.count_old.result (old_revisions b.strategy b.past) _ (c.oldest_is_removed.ensures b.strategy b.past) count (omega (arith, c.if-count_old-self.false)))

pub returns-in-None : goal.returns-in-None
returns-in-None g c =
    let b = (model_of c.self.inside).routing in
    let count = counted c.self.inside _ c.args.selectors _ c.count_old.result c.self.invariant c.self.view_is c.requires c.as_slice-revisions.ensures c.count_old.ensures in
    removed_now _ _ None c.self.view_is
    (ap (option_map (λ (v : Revision). v.number)) c.in-None.ensures
    ∙ found c.self.inside _ c.args.selectors _ c.self.invariant c.self.view_is c.requires c.as_slice-revisions.ensures
    ∙ first_removed b.strategy.history_limit c.count_old.result (old_revisions b.strategy b.past) _ (c.oldest_is_removed.ensures b.strategy b.past) count (omega (arith, c.if-count_old-self.false)))
