use Rattle.std.proofs.Common.{◌≡◌, ◌↔◌, Bool, false, ℕ, List, length, IsTrue, sym, subst, ◌∙◌}
use Rattle.bg_strategy.specs.declared.strategy.Strategy.{Strategy}
use Rattle.bg_history.specs.declared.entry.Entry.{Entry}
use Rattle.bg_history.specs.Kept.{Opening}
use Rattle.bg_history.specs.Requests.{given, request_numbers}
use Rattle.bg_history.specs.Steps.{IsLegal, is_opening, is_settled, all_allowed, all_given}
use Rattle.bg_audit.specs.Openings.{opening_of}
use Rattle.bg_audit.specs.Known.{FactsRepresent}
use Rattle.bg_audit.proofs.auditing.audit_opened.Goals as goal
use Rattle.bg_audit.proofs.auditing.audit_opened.Goals.{then-are_given, else-are_given}

-- a history whose entries were allowed and whose numbers were given is legal, so only the last test is left
legal : (s : Strategy) (o p : Opening) (closed : List ℕ) (past : List Entry) (b : Bool) → o ≡ p → length closed ≡ p.seats → IsTrue (is_opening s p) → IsTrue (all_allowed s p past)
    → IsTrue (all_given (given closed past) (request_numbers past)) → b ≡ is_settled s past → IsTrue b ↔ (IsLegal s o closed past × IsTrue (is_settled s past))
legal s o p closed past b same seats opening allowed numbers is =
    subst (λ (q : Opening). IsTrue b ↔ (IsLegal s q closed past × IsTrue (is_settled s past))) (sym same)
    (λ t. (record { opening = opening; seats = seats; allowed = allowed; numbers = numbers }, sym is ∙ t), λ h. is ∙ h.1)

-- a history with a number that was not given is not legal
not_legal : (s : Strategy) (o : Opening) (closed : List ℕ) (past : List Entry) (b : Bool) → all_given (given closed past) (request_numbers past) ≡ false → b ≡ false
    → IsTrue b ↔ (IsLegal s o closed past × IsTrue (is_settled s past))
not_legal s o closed past b numbers is = (λ t. absurd (cc), λ h. let given_all = h.0.numbers in absurd (cc))

pub returns-after-are_given : goal.returns-after-are_given
returns-after-are_given c =
    let s = c.args.strategy.now in
    let kept = c.args.history.now in
    let p = opening_of c.args.opening.now.seats c.args.opening.now.name.now c.args.opening.now.ports.now in
    let found : FactsRepresent s p kept.past c.in-Some.facts = rw c.in-Some.is at c.in_ok-facts.ensures in
    elim c.if-are_given.branch [
      | then-are_given w ↦ legal s kept.opening p kept.closed kept.past _ c.requires.opening c.requires.closed (sym c.is_well_formed.ensures ∙ c.if-not-is_well_formed.false) found.allowed
          (sym c.are_given.ensures ∙ w.if-are_given.true) (w.result-is ∙ w.is_settled.ensures p kept.past found.known (c.reachable.ensures s p kept.past found.allowed))
      | else-are_given w ↦ not_legal s kept.opening kept.closed kept.past _ (sym c.are_given.ensures ∙ w.if-are_given.false) (w.result-is ∙ w.if-are_given.false)
    ]
