-- A request that leaves allows at most two outcomes: its revision, which alone lost a request, is
-- scaled down; that makes no other one due and at most one revision old, so one is removed.
use Rattle.std.proofs.Common.{◌≡◌, ◌≤◌, ◌+◌, ℕ, Bool, true, false, not, cond, ◌==◌, ◌&&◌, ◌||◌, nat_lt, List, [], ◌∷◌, length, filter, find, map, Option, Some, None, is_none, refl, arith, sym, ◌∙◌, ap}
use Rattle.std.specs.List.{list_all}
use Rattle.std.specs.Option.{option_or, option_map}
use Rattle.std.proofs.lemmas.Bool.Decides.{nat_tests}
use Rattle.std.proofs.lemmas.List.Sums.{length-filter}
use Rattle.bg_history.specs.declared.entry.Entry.{Entry}
use Rattle.bg_history.specs.declared.entry.Entry.TheVariants.{Leave, Outcome}
use Rattle.bg_history.specs.declared.entry.Outcome as outcome
use Rattle.bg_history.specs.declared.entry.Outcome.TheVariants.{ScaledDown, Removed}
use Rattle.bg_strategy.specs.declared.strategy.Strategy.{Strategy}
use Rattle.bg_history.specs.AttemptBounds.{newest_of, is_running}
use Rattle.bg_history.specs.Selections.{is_selected}
use Rattle.bg_history.specs.Sizes.{existing, Ascends}
use Rattle.bg_history.specs.Requests.{Request, open_requests, open_at}
use Rattle.bg_history.specs.Promotion.{first_promotion}
use Rattle.bg_history.specs.Deadlines.{exists_in, is_spare, marks_due, is_due, is_empty, is_old, old_revisions, may_scale_down}
use Rattle.bg_history.specs.Marks.{mark}
use Rattle.bg_history.specs.Steps.{first_allowed, is_settled, Follows}
use Rattle.bg_history_laws.specs.Removals.{first_of}
use Rattle.bg_history_laws.proofs.Ended.Counts.{count-one_more}
use Rattle.bg_history_laws.proofs.Finding.{found, none-found}
use Rattle.bg_history_laws.proofs.Ended.Removing.{oldest-is_removed, length-without_first}
use Rattle.bg_history_laws.proofs.Ended.Settled.{AllDone, done-from_settled, settled-from_done, none-removed}
use Rattle.bg_history_laws.proofs.Ended.Lowering.{both, not-lowered, leave-calm, scaled_down-calm, removed-calm}
use Rattle.bg_history_laws.proofs.Lists.{filter-swap}

-- each of these requests with that number is at r
abbrev pub are_at : ℕ → ℕ → List Request → Bool
are_at number r held = list_all (λ o. not (o.number == number) || (o.revision == r)) held

-- without them, the requests at another revision are the same
pub open-other : (number r q : ℕ) (held : List Request) → (r == q) ≡ false → are_at number r held ≡ true
    → filter (λ o. o.revision == q) (filter (λ o. not (o.number == number)) held) ≡ filter (λ o. o.revision == q) held
open-other number r q [] other at = refl
open-other number r q (o ∷ held) other at =
    let parts = both (not (o.number == number) || (o.revision == r)) (are_at number r held) at in
    by-tests (o.number == number) (o.revision == q) refl parts.0 (open-other number r q held other parts.1) where
      by-tests : (a b : Bool) → (o.revision == q) ≡ b → not a || (o.revision == r) ≡ true
          → filter (λ o. o.revision == q) (filter (λ o. not (o.number == number)) held) ≡ filter (λ o. o.revision == q) held
          → filter (λ o. o.revision == q) (cond (not a) (o ∷ filter (λ o. not (o.number == number)) held) (filter (λ o. not (o.number == number)) held))
          ≡ cond b (o ∷ filter (λ o. o.revision == q) held) (filter (λ o. o.revision == q) held)
      by-tests true true is here rest = absurd (grind (arith, nat_tests))
      by-tests true false is here rest = rest
      by-tests false true is here rest = rw is (ap (λ t. o ∷ t) rest)
      by-tests false false is here rest = rw is rest

-- no step is allowed, no revision other than r may be scaled down, and the old ones are within the limit
record OneLeft (s : Strategy) (r : ℕ) (past : List Entry) : Type 0 where
  no_step : first_promotion s past ≡ None
  no_other : (q : ℕ) → (r == q) ≡ false → may_scale_down s q past ≡ false
  few_old : length (old_revisions s past) ≤ s.history_limit

-- this holds after a request left r
one-after_leave : (s : Strategy) (past : List Entry) (seat number r : ℕ) → AllDone s past → are_at number r (open_requests past) ≡ true → OneLeft s r (Leave seat number r ∷ past)
one-after_leave s past seat number r done at = record {
  no_step = done.no_step;
  no_other = λ q other. not-lowered s q (Leave seat number r) past (leave-calm s seat number r past)
      (λ h. ap (λ held. is_empty (map (λ o. o.number) held)) (sym (open-other number r q (open_requests past) other at)) ∙ h)
      (done.no_lowering q);
  few_old = done.few_old;
}

-- so no outcome is allowed if r may not be scaled down either
pub leaving-settles : (s : Strategy) (past : List Entry) (seat number r : ℕ) → is_settled s past ≡ true → are_at number r (open_requests past) ≡ true
    → may_scale_down s r (Leave seat number r ∷ past) ≡ false → is_settled s (Leave seat number r ∷ past) ≡ true
leaving-settles s past seat number r settled at stays =
    settled-from_done s after
    (record {
      no_step = one.no_step;
      no_lowering = λ q. by-number q (r == q) refl;
      few_old = one.few_old;
    }) where
      after : List Entry
      after = Leave seat number r ∷ past

      one : OneLeft s r after
      one = one-after_leave s past seat number r (done-from_settled s past settled) at

      by-number : (q : ℕ) (b : Bool) → (r == q) ≡ b → may_scale_down s q after ≡ false
      by-number q true is =
          let e : q ≡ r = grind (arith, nat_tests) in
          ap (λ t. may_scale_down s t after) e ∙ stays
      by-number q false is = one.no_other q is

-- then the first outcome scales r down
first-is_lowering : (s : Strategy) (r : ℕ) (past : List Entry) (x : outcome.Outcome) → OneLeft s r past → first_allowed s past ≡ Some x
    → (x ≡ ScaledDown r) × (may_scale_down s r past ≡ true)
first-is_lowering s r past x one h = by-found (find (λ q. may_scale_down s q past) (existing past)) refl
    (rw (one.no_step, none-removed s past one.few_old) at h) where
      by-number : (q : ℕ) (b : Bool) → (r == q) ≡ b → may_scale_down s q past ≡ true → r ≡ q
      by-number q true is may = grind (arith, nat_tests)
      by-number q false is may = let fails : may_scale_down s q past ≡ false = one.no_other q is in absurd (cc)

      by-found : (o : Option ℕ) → find (λ q. may_scale_down s q past) (existing past) ≡ o → option_or (option_map ScaledDown o) None ≡ Some x
          → (x ≡ ScaledDown r) × (may_scale_down s r past ≡ true)
      by-found None is h = absurd (cc)
      by-found (Some q) is h =
          let may : may_scale_down s q past ≡ true = (found (λ q. may_scale_down s q past) q (existing past) is).0 in
          let same : r ≡ q = by-number q (r == q) refl may in
          (rw same (cc), rw same may)

-- no step becomes allowed by the scale-down of a revision that isn't selected
no_step-lowered : (s : Strategy) (r : ℕ) (past : List Entry) → is_selected r past ≡ false → first_promotion s past ≡ None
    → first_promotion s (Outcome (ScaledDown r) ∷ past) ≡ None
no_step-lowered s r past apart h = by-running (is_running past) refl where
  by-running : (b : Bool) → is_running past ≡ b → first_promotion s (Outcome (ScaledDown r) ∷ past) ≡ None
  by-running true is =
      let other : (r == newest_of past) ≡ false = grind (arith, nat_tests) in
      rw other h
  by-running false is = rw is refl

-- a scale-down makes at most one more revision old
old-lowered : (s : Strategy) (r : ℕ) (past : List Entry) → Ascends (existing past)
    → length (old_revisions s (Outcome (ScaledDown r) ∷ past)) ≤ length (old_revisions s past) + 1
old-lowered s r past ascends =
    rw (length-filter (is_old s (Outcome (ScaledDown r) ∷ past)) (existing past), length-filter (is_old s past) (existing past))
    (count-one_more (is_old s past) (is_old s (Outcome (ScaledDown r) ∷ past)) r (existing past) ascends (λ q other. rw other refl))

-- no step is allowed, no revision may be scaled down, and at most one old revision is above the limit
record OneTooMany (s : Strategy) (past : List Entry) : Type 0 where
  no_step : first_promotion s past ≡ None
  no_lowering : (q : ℕ) → may_scale_down s q past ≡ false
  few_old : length (old_revisions s past) ≤ s.history_limit + 1

-- a revision that may be scaled down isn't selected
lowered-apart : (s : Strategy) (r : ℕ) (past : List Entry) → may_scale_down s r past ≡ true → is_selected r past ≡ false
lowered-apart s r past may =
    let due = both (is_due s r past) (is_empty (open_at r past)) may in
    let spare = both (exists_in r past && is_spare s r past) (marks_due s (mark s r past) past) due.0 in
    let is = both (exists_in r past) (is_spare s r past) spare.0 in
    grind (arith, is.1)

-- this holds after r was scaled down
one-after_lowering : (s : Strategy) (r : ℕ) (past : List Entry) → Ascends (existing past) → OneLeft s r past → may_scale_down s r past ≡ true
    → OneTooMany s (Outcome (ScaledDown r) ∷ past)
one-after_lowering s r past ascends one may = record {
  no_step = no_step-lowered s r past (lowered-apart s r past may) one.no_step;
  no_lowering = λ q. by-number q (r == q) refl;
  few_old = omega (arith, old-lowered s r past ascends, one.few_old);
} where
  by-number : (q : ℕ) (b : Bool) → (r == q) ≡ b → may_scale_down s q (Outcome (ScaledDown r) ∷ past) ≡ false
  by-number q true is = grind (arith, nat_tests)
  by-number q false is = not-lowered s q (Outcome (ScaledDown r)) past (scaled_down-calm s r past) (λ h. h) (one.no_other q is)

-- then the first outcome removes the first of the old revisions
first-is_removal : (s : Strategy) (past : List Entry) (x : outcome.Outcome) → OneTooMany s past → first_allowed s past ≡ Some x
    → option_map Removed (first_of (old_revisions s past)) ≡ Some x
first-is_removal s past x one h =
    let lowering : find (λ q. may_scale_down s q past) (existing past) ≡ None = none-found (λ q. may_scale_down s q past) (existing past) one.no_lowering in
    by-test (nat_lt s.history_limit (length (old_revisions s past))) (rw (one.no_step, lowering, oldest-is_removed s past) at h) where
      by-test : (b : Bool) → option_map Removed (cond b (first_of (old_revisions s past)) None) ≡ Some x → option_map Removed (first_of (old_revisions s past)) ≡ Some x
      by-test true h = h
      by-test false h = absurd (cc)

-- after it, no outcome is allowed
done-after_removal : (s : Strategy) (q : ℕ) (past : List Entry) → OneTooMany s past → first_of (old_revisions s past) ≡ Some q → AllDone s (Outcome (Removed q) ∷ past)
done-after_removal s q past one first = record {
  no_step = one.no_step;
  no_lowering = λ p. not-lowered s p (Outcome (Removed q)) past (removed-calm s q past) (λ h. h) (one.no_lowering p);
  few_old = rw (filter-swap (is_old s past) (λ r. not (r == q)) (existing past))
      (omega (arith, length-without_first q (old_revisions s past) first, one.few_old));
}

-- so no outcome is allowed after that one
settled-after_removal : (s : Strategy) (past : List Entry) (x : outcome.Outcome) → OneTooMany s past → first_allowed s past ≡ Some x → is_settled s (Outcome x ∷ past) ≡ true
settled-after_removal s past x one h = by-first (first_of (old_revisions s past)) refl (first-is_removal s past x one h) where
  by-first : (o : Option ℕ) → first_of (old_revisions s past) ≡ o → option_map Removed o ≡ Some x → is_settled s (Outcome x ∷ past) ≡ true
  by-first None is h = absurd (cc)
  by-first (Some q) is h =
      let e : Removed q ≡ x = cc in
      rw (← e) (settled-from_done s (Outcome (Removed q) ∷ past) (done-after_removal s q past one is))

-- so no third outcome is allowed after the first two
two-settle : (s : Strategy) (past : List Entry) (r : ℕ) (x y : outcome.Outcome) → Ascends (existing past) → OneLeft s r past → first_allowed s past ≡ Some x
    → first_allowed s (Outcome x ∷ past) ≡ Some y → is_settled s (Outcome y ∷ Outcome x ∷ past) ≡ true
two-settle s past r x y ascends one first second =
    let lowering = first-is_lowering s r past x one first in
    let now : OneTooMany s (Outcome x ∷ past) = rw lowering.0 (one-after_lowering s r past ascends one lowering.1) in
    settled-after_removal s (Outcome x ∷ past) y now second

-- an option that is none has no value
none-is_some : (o : Option outcome.Outcome) (x : outcome.Outcome) → is_none o ≡ true → o ≡ Some x → ⊥
none-is_some None x none is = cc
none-is_some (Some y) x none is = cc

-- if no third outcome is allowed, at most two follow
at-most_two : (s : Strategy) (outcomes : List outcome.Outcome) (past : List Entry)
    → ((x y : outcome.Outcome) → first_allowed s past ≡ Some x → first_allowed s (Outcome x ∷ past) ≡ Some y → is_settled s (Outcome y ∷ Outcome x ∷ past) ≡ true)
    → Follows s outcomes past → length outcomes ≤ 2
at-most_two s [] past two follow = omega arith
at-most_two s (x ∷ []) past two follow = omega arith
at-most_two s (y ∷ x ∷ []) past two follow = omega arith
at-most_two s (z ∷ y ∷ x ∷ []) past two follow =
    let settled : is_settled s (Outcome y ∷ Outcome x ∷ past) ≡ true = two x y follow.0.0.1 follow.0.1 in
    absurd (none-is_some (first_allowed s (Outcome y ∷ Outcome x ∷ past)) z settled follow.1)
at-most_two s (w ∷ z ∷ y ∷ x ∷ earlier) past two follow =
    let few : length (z ∷ y ∷ x ∷ earlier) ≤ 2 = at-most_two s (z ∷ y ∷ x ∷ earlier) past two follow.0 in
    absurd (omega (arith, few))

-- a request that leaves allows at most two outcomes
pub leaving-allows_two : (s : Strategy) (past : List Entry) (seat number r : ℕ) (outcomes : List outcome.Outcome) → Ascends (existing past)
    → is_settled s past ≡ true → are_at number r (open_requests past) ≡ true → Follows s outcomes (Leave seat number r ∷ past) → length outcomes ≤ 2
leaving-allows_two s past seat number r outcomes ascends settled at follow =
    let one = one-after_leave s past seat number r (done-from_settled s past settled) at in
    at-most_two s outcomes (Leave seat number r ∷ past) (λ x y. two-settle s (Leave seat number r ∷ past) r x y ascends one) follow
