use Rattle.std.proofs.Common.{◌≡◌, ℕ, Bool, true, false, List, sym, ◌∙◌, subst}
use Rattle.bg_strategy.specs.declared.strategy.Strategy.{Strategy}
use Rattle.bg_history.specs.declared.entry.Entry.{Entry}
use Rattle.bg_history.specs.Requests.{open_at}
use Rattle.bg_history.specs.Deadlines.{is_due, is_empty, may_scale_down}
use Rattle.bg_rollout.specs.Invariant.{RolloutModel, PartsRepresent, model_of, parts_of}
use Rattle.bg_rollout.proofs.rollout.Rollout.may_scale_down.Goals as goal

-- a revision that is due by the marks is due by the past
due_now : (inside now : RolloutModel) (r : ℕ) (due : Bool) → inside ≡ now → due ≡ is_due inside.routing.strategy r inside.routing.past → due ≡ is_due now.routing.strategy r now.routing.past
due_now inside now r due is h = subst (λ (m : RolloutModel). due ≡ is_due m.routing.strategy r m.routing.past) is h

where_due : (s : Strategy) (past : List Entry) (r : ℕ) (due empty : Bool) → due ≡ is_due s r past → due ≡ true → empty ≡ is_empty (open_at r past)
    → empty ≡ may_scale_down s r past
where_due s past r due empty is holds none = rw (sym is ∙ holds) none

where_not : (s : Strategy) (past : List Entry) (r : ℕ) (due : Bool) → due ≡ is_due s r past → due ≡ false → due ≡ may_scale_down s r past
where_not s past r due is fails = rw (sym is ∙ fails) fails

pub returns-then-is_due : goal.returns-then-is_due
returns-then-is_due g c =
    let b = (model_of c.self.inside).routing in
    let represents : PartsRepresent b (parts_of c.self.inside) = c.self.invariant in
    let reach = c.reachable.ensures b.strategy b.opening b.past represents.routing.legal.allowed in
    where_due c.args.self.now.routing.strategy c.args.self.now.routing.past c.args.revision c.is_due.result c.is_empty_at.result
    (due_now _ _ c.args.revision c.is_due.result c.self.view_is
    (c.is_due.ensures.past b.strategy b.past represents.deadlines (record { exist = reach.marked_exists; scaled = reach.marked_scaled }) (c.selectors.ensures b.strategy b.past represents.core) represents.moment))
    c.if-is_due.true c.is_empty_at.ensures

pub returns-else-is_due : goal.returns-else-is_due
returns-else-is_due g c =
    let b = (model_of c.self.inside).routing in
    let represents : PartsRepresent b (parts_of c.self.inside) = c.self.invariant in
    let reach = c.reachable.ensures b.strategy b.opening b.past represents.routing.legal.allowed in
    where_not c.args.self.now.routing.strategy c.args.self.now.routing.past c.args.revision c.is_due.result
    (due_now _ _ c.args.revision c.is_due.result c.self.view_is
    (c.is_due.ensures.past b.strategy b.past represents.deadlines (record { exist = reach.marked_exists; scaled = reach.marked_scaled }) (c.selectors.ensures b.strategy b.past represents.core) represents.moment))
    c.if-is_due.false
