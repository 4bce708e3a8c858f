use Rattle.std.proofs.Common.{Bor, ◌≡◌, ℕ, cond, find, Option, Some, None, refl, sym, ap, ◌∙◌, subst, rules}
use Rattle.std.specs.Option.{option_or, option_map, option_copied, IsSome}
use Rattle.std.proofs.lemmas.Option.{same_Some}
use Rattle.bg_revisions.specs.declared.revision.Revision.{Revision}
use Rattle.bg_revisions.specs.Rosters.{numbered}
use Rattle.bg_history.specs.declared.entry.Outcome.{Outcome}
use Rattle.bg_history.specs.declared.entry.Outcome.TheVariants.{ScaledDown, Removed}
use Rattle.bg_history.specs.AttemptBounds.{newest_of}
use Rattle.bg_history.specs.Selections.{selectors_of}
use Rattle.bg_revisions.specs.declared.revision.Selectors.{Selectors}
use Rattle.bg_history.specs.Sizes.{existing, available}
use Rattle.bg_history.specs.Requests.{open_at}
use Rattle.bg_history.specs.Promotion.{first_promotion}
use Rattle.bg_history.specs.Deadlines.{exists_in, is_empty, may_scale_down, may_remove}
use Rattle.bg_history.specs.Steps.{first_allowed}
use Rattle.bg_history_laws.specs.Listed.{revision_of, revisions_of}
use Rattle.bg_history_laws.specs.Reachable.{Reachable}
use Rattle.bg_rollout.specs.declared.rollout.Rollout.TheInside.{Inside}
use Rattle.bg_rollout.specs.Invariant.{RolloutModel, PartsRepresent, model_of, parts_of}
use Rattle.bg_rollout.proofs.ControlEvents.Events.{found_there, has}
use Rattle.bg_rollout.proofs.rollout.Rollout.next_outcome.Goals as goal

some_copied : (x : Option (Bor Revision)) (v : Revision) → option_copied x ≡ Some v → IsSome x
some_copied None v h = absurd (cc)
some_copied (Some x) v h = refl

-- the newest revision is found
newest_found : {N : Type 0} (inside : Inside N) (x : Selectors) (found : Option Revision) → PartsRepresent (model_of inside).routing (parts_of inside)
    → Reachable inside.strategy inside.history.opening inside.history.past → x ≡ selectors_of inside.history.past → found ≡ numbered x.newest inside.roster.revisions
    → numbered (newest_of inside.history.past) (revisions_of inside.strategy inside.history.opening inside.history.past)
    ≡ cond (exists_in (newest_of inside.history.past) inside.history.past) (Some (revision_of inside.strategy inside.history.opening inside.history.past (newest_of inside.history.past))) None
    → found ≡ Some (revision_of inside.strategy inside.history.opening inside.history.past (newest_of inside.history.past))
newest_found inside x found represents reach selected is finds =
    is ∙ ap (λ (y : Selectors). numbered y.newest inside.roster.revisions) selected
    ∙ found_there inside.strategy inside.history.opening inside.history.past (newest_of inside.history.past) _ represents.revisions finds reach.newest

pub unwrap-newest-requires : goal.unwrap-newest-requires
unwrap-newest-requires g c =
    let b = (model_of c.self.inside).routing in
    let represents : PartsRepresent b (parts_of c.self.inside) = c.self.invariant in
    let reach = c.reachable.ensures b.strategy b.opening b.past represents.routing.legal.allowed in
    some_copied c.find_number.result _
    (newest_found c.self.inside c.selectors-selectors.result _ represents reach (c.selectors-selectors.ensures b.strategy b.past represents.core) c.find_number.ensures (c.finds.ensures.number b.strategy b.opening b.past (newest_of b.past)))

-- the first outcome if no step is next and the revision to scale down is known
first_known : (a : Option Outcome) (d e x y : Option ℕ) → None ≡ a → x ≡ d → y ≡ e
    → option_or (option_map ScaledDown x) (option_map Removed y) ≡ option_or a (option_or (option_map ScaledDown d) (option_map Removed e))
first_known a d e x y none is also = rw (← none, ← is, ← also) refl

-- the outcome is the one of the past
first_now : (inside now : RolloutModel) (x : Option Outcome) → inside ≡ now → x ≡ first_allowed inside.routing.strategy inside.routing.past → x ≡ first_allowed now.routing.strategy now.routing.past
first_now inside now x is h = subst (λ (m : RolloutModel). x ≡ first_allowed m.routing.strategy m.routing.past) is h

-- the next outcome if no step is next
next_now : {N : Type 0} (inside : Inside N) (now : RolloutModel) (x y : Option ℕ) (newest : Revision) (found : Option Revision) (step : Option Outcome) → model_of inside ≡ now → PartsRepresent (model_of inside).routing (parts_of inside)
    → found ≡ Some (revision_of inside.strategy inside.history.opening inside.history.past (newest_of inside.history.past)) → found ≡ Some newest → step ≡ None
    → (newest.available ≡ available (newest_of inside.history.past) inside.history.past → step ≡ first_promotion inside.strategy inside.history.past)
    → x ≡ find (λ r. may_scale_down inside.strategy r inside.history.past) (existing inside.history.past)
    → y ≡ find (λ r. may_remove now.routing.strategy r now.routing.past) (existing now.routing.past)
    → option_or (option_map ScaledDown x) (option_map Removed y) ≡ first_allowed now.routing.strategy now.routing.past
next_now inside now x y newest found step is represents was here none promotion due removed =
    let same : newest ≡ revision_of inside.strategy inside.history.opening inside.history.past (newest_of inside.history.past) = same_Some _ _ (sym here ∙ was) in
    first_now (model_of inside) now _ is
    (first_known (first_promotion inside.strategy inside.history.past) _ _ x y
    (sym none ∙ promotion (ap (λ (v : Revision). v.available) same ∙ has inside.strategy inside.history.opening inside.history.past (newest_of inside.history.past))) due
    (subst (λ (m : RolloutModel). y ≡ find (λ r. may_remove m.routing.strategy r m.routing.past) (existing m.routing.past)) (sym is) removed))

pub returns-in-Some-due : goal.returns-in-Some-due
returns-in-Some-due g c =
    let b = (model_of c.self.inside).routing in
    let represents : PartsRepresent b (parts_of c.self.inside) = c.self.invariant in
    let reach = c.reachable.ensures b.strategy b.opening b.past represents.routing.legal.allowed in
    let newest = newest_found c.self.inside c.selectors-selectors.result _ represents reach (c.selectors-selectors.ensures b.strategy b.past represents.core) c.find_number.ensures (c.finds.ensures.number b.strategy b.opening b.past (newest_of b.past)) in
    let due : c.next_due-due.result ≡ find (λ r. may_scale_down b.strategy r b.past) (existing b.past) =
    c.next_due-due.ensures.past b.strategy b.past (λ r. is_empty (open_at r b.past)) represents.deadlines (record { exist = reach.marked_exists; scaled = reach.marked_scaled })
    (c.selectors-selectors.ensures b.strategy b.past represents.core) represents.moment
    (λ x r post. subst (λ (m : RolloutModel). r ≡ is_empty (open_at x m.routing.past)) (sym c.self.view_is) (search rules)) in
    next_now c.self.inside _ (Some c.in-Some-due.revision) _ c.unwrap-newest.result.now _ c.next_outcome.result c.self.view_is represents newest (ap option_copied c.unwrap-newest.ensures) c.in_default.is
    (λ there. c.next_outcome.ensures b.strategy b.past represents.core there represents.moment) (sym c.in-Some-due.is ∙ due) refl

pub returns-in-Some-next_removed : goal.returns-in-Some-next_removed
returns-in-Some-next_removed g c =
    let b = (model_of c.self.inside).routing in
    let represents : PartsRepresent b (parts_of c.self.inside) = c.self.invariant in
    let reach = c.reachable.ensures b.strategy b.opening b.past represents.routing.legal.allowed in
    let newest = newest_found c.self.inside c.selectors-selectors.result _ represents reach (c.selectors-selectors.ensures b.strategy b.past represents.core) c.find_number.ensures (c.finds.ensures.number b.strategy b.opening b.past (newest_of b.past)) in
    let due : c.next_due-due.result ≡ find (λ r. may_scale_down b.strategy r b.past) (existing b.past) =
    c.next_due-due.ensures.past b.strategy b.past (λ r. is_empty (open_at r b.past)) represents.deadlines (record { exist = reach.marked_exists; scaled = reach.marked_scaled })
    (c.selectors-selectors.ensures b.strategy b.past represents.core) represents.moment
    (λ x r post. subst (λ (m : RolloutModel). r ≡ is_empty (open_at x m.routing.past)) (sym c.self.view_is) (search rules)) in
    next_now c.self.inside _ None (Some c.in-Some-next_removed.revision) c.unwrap-newest.result.now _ c.next_outcome.result c.self.view_is represents newest (ap option_copied c.unwrap-newest.ensures) c.in_default.is
    (λ there. c.next_outcome.ensures b.strategy b.past represents.core there represents.moment) (sym c.in_default-due.is ∙ due) c.in-Some-next_removed.ensures

pub returns-in-None : goal.returns-in-None
returns-in-None g c =
    let b = (model_of c.self.inside).routing in
    let represents : PartsRepresent b (parts_of c.self.inside) = c.self.invariant in
    let reach = c.reachable.ensures b.strategy b.opening b.past represents.routing.legal.allowed in
    let newest = newest_found c.self.inside c.selectors-selectors.result _ represents reach (c.selectors-selectors.ensures b.strategy b.past represents.core) c.find_number.ensures (c.finds.ensures.number b.strategy b.opening b.past (newest_of b.past)) in
    let due : c.next_due-due.result ≡ find (λ r. may_scale_down b.strategy r b.past) (existing b.past) =
    c.next_due-due.ensures.past b.strategy b.past (λ r. is_empty (open_at r b.past)) represents.deadlines (record { exist = reach.marked_exists; scaled = reach.marked_scaled })
    (c.selectors-selectors.ensures b.strategy b.past represents.core) represents.moment
    (λ x r post. subst (λ (m : RolloutModel). r ≡ is_empty (open_at x m.routing.past)) (sym c.self.view_is) (search rules)) in
    next_now c.self.inside _ None None c.unwrap-newest.result.now _ c.next_outcome.result c.self.view_is represents newest (ap option_copied c.unwrap-newest.ensures) c.in_default.is
    (λ there. c.next_outcome.ensures b.strategy b.past represents.core there represents.moment) (sym c.in_default-due.is ∙ due) c.in-None.ensures
