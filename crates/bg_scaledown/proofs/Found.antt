-- The first of the ascending numbers that passes a test is the least.
use Rattle.std.proofs.Common.{◌≡◌, ◌≤◌, ℕ, Bool, true, false, ◌&&◌, ◌==◌, List, [], ◌∷◌, find, Option, Some, None, refl, arith, ◌∙◌, sym, inl, inr}
use Rattle.std.proofs.lemmas.Bool.Decides.{nat_tests, eqb_tells}
use Rattle.bg_history.specs.declared.entry.Entry.{Entry}
use Rattle.bg_strategy.specs.declared.strategy.Strategy.{Strategy}
use Rattle.bg_history.specs.AttemptBounds.{moment}
use Rattle.bg_history.specs.Selections.{selectors_of}
use Rattle.bg_history.specs.Sizes.{existing, AllAbove, Ascends}
use Rattle.bg_history.specs.Marks.{mark}
use Rattle.bg_history.specs.Deadlines.{exists_in, is_spare, marks_due, is_due}
use Rattle.bg_scaledown.specs.Due.{IsLeastDue}
use Rattle.bg_history.specs.Tables.{table_of, DeadlinesInvariant}
use Rattle.bg_scaledown.proofs.Counts.{member, is_false, above-absent}
use Rattle.bg_scaledown.proofs.PastDue.{due-is_due}

-- if no number passes, none is found
find-none : (test : ℕ → Bool) (xs : List ℕ) → ((q : ℕ) → test q ≡ false) → find test xs ≡ None
find-none test [] never = refl
find-none test (x ∷ xs) never = rw (never x) (find-none test xs never)

-- the cases of the first number: it passes or not
find-by : (b : Bool) (test : ℕ → Bool) (r x : ℕ) (xs : List ℕ) → test x ≡ b → AllAbove x xs → member r (x ∷ xs) ≡ true → test r ≡ true → (test x ≡ true → r ≤ x)
    → (member r xs ≡ true → find test xs ≡ Some r) → find test (x ∷ xs) ≡ Some r
find-by true test r x xs passes above within holds least below =
    let le : r ≤ x = least passes in
    let absent : member r xs ≡ false = above-absent x r xs le above in
    let is : x ≡ r = grind (arith, nat_tests) in
    rw (passes, is) refl
find-by false test r x xs fails above within holds least below =
    let other : (x == r) ≡ false = elim (eqb_tells x r) [
      | inl h ↦ let passes : test x ≡ true = rw h.1 holds in absurd (cc)
      | inr h ↦ h.0
    ] in
    rw fails (below (grind (arith)))

-- the least number that passes is found if it is in the list
find-least : (test : ℕ → Bool) (r : ℕ) (xs : List ℕ) → Ascends xs → member r xs ≡ true → test r ≡ true → ((q : ℕ) → test q ≡ true → r ≤ q) → find test xs ≡ Some r
find-least test r [] ascends within holds least = cc
find-least test r (x ∷ xs) ascends within holds least =
    find-by (test x) test r x xs refl ascends.0 within holds (least x) (λ below. find-least test r xs ascends.1 below holds least)

-- both of two tests hold
both : (a b : Bool) → (a && b) ≡ true → (a ≡ true) × (b ≡ true)
both true b h = (refl, h)
both false b h = absurd (cc)

-- a revision that is due by a table is due by its past, so the least one of the table is the first one of the past
pub first-due : (s : Strategy) (past : List Entry) (p : ℕ → Bool) (result : Option ℕ) → DeadlinesInvariant s past → Ascends (existing past)
    → IsLeastDue (table_of s past) (moment past) (selectors_of past) p result → result ≡ find (λ r. is_due s r past && p r) (existing past)
first-due s past p None invariant ascends least =
    sym (find-none (λ r. is_due s r past && p r) (existing past) (λ q. is_false (is_due s q past && p q) (λ h.
    let parts : (is_due s q past ≡ true) × (p q ≡ true) = both (is_due s q past) (p q) h in
    let fails : p q ≡ false = least.none q (due-is_due s q past invariant ascends ∙ parts.0) in
    absurd (cc))))
first-due s past p (Some r) invariant ascends least =
    let due : is_due s r past ≡ true = sym (due-is_due s r past invariant ascends) ∙ least.due in
    let exists : exists_in r past ≡ true = (both (exists_in r past) (is_spare s r past) (both (exists_in r past && is_spare s r past) (marks_due s (mark s r past) past) due).0).0 in
    sym (find-least (λ q. is_due s q past && p q) r (existing past) ascends exists (rw (due, least.passes) refl) (λ q h.
    let parts : (is_due s q past ≡ true) × (p q ≡ true) = both (is_due s q past) (p q) h in
    least.least q (due-is_due s q past invariant ascends ∙ parts.0) parts.1))
