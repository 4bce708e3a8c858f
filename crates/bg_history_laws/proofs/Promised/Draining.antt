-- A revision that is due is scaled down when its last request leaves.
use Rattle.std.proofs.Common.{◌≡◌, ℕ, Bool, true, false, not, cond, ◌==◌, ◌&&◌, ◌||◌, nat_le, List, [], ◌∷◌, filter, find, map, length, Option, Some, None, is_none, refl, arith, ap, sym, subst, ◌∙◌, ◌⊎◌, inl, inr}
use Rattle.std.specs.List.{list_all}
use Rattle.std.specs.Option.{option_or, option_map}
use Rattle.std.proofs.lemmas.Bool.Decides.{nat_tests}
use Rattle.std.proofs.lemmas.Option.{same_Some}
use Rattle.bg_strategy.specs.declared.strategy.Strategy.{Strategy}
use Rattle.bg_history.specs.declared.entry.Entry.{Entry}
use Rattle.bg_history.specs.declared.entry.Entry.TheVariants.{Leave, Outcome}
use Rattle.bg_history.specs.declared.entry.Outcome as outcome
use Rattle.bg_history.specs.declared.entry.Outcome.TheVariants.{Ready, Resumed, Switched, Promoted, ScaledDown, Removed}
use Rattle.bg_history.specs.Kept.{Opening}
use Rattle.bg_history.specs.AttemptBounds.{moment, newest_of, is_running}
use Rattle.bg_history.specs.Selections.{active_of}
use Rattle.bg_history.specs.Sizes.{existing, desired, available}
use Rattle.bg_history.specs.Requests.{Request, open_requests, open_at}
use Rattle.bg_history.specs.Marks.{Left, Cleared, Mark, mark}
use Rattle.bg_history.specs.Promotion.{first_promotion}
use Rattle.bg_history.specs.Deadlines.{exists_in, is_spare, marks_due, is_due, is_empty, may_scale_down, may_remove}
use Rattle.bg_history.specs.Allowed.{is_allowed}
use Rattle.bg_history.specs.Steps.{first_allowed, is_settled, all_allowed, with_outcomes, Follows, Step}
use Rattle.bg_history_laws.specs.Draining.{WaitsFor, IsScaledDown}
use Rattle.bg_history_laws.proofs.Tests.{and_parts, and_both, both_ways, equal_itself, equal_numbers}
use Rattle.bg_history_laws.proofs.Promised.Outcomes.{first-allowed}
use Rattle.bg_history_laws.proofs.Promised.Attempts.{resumed-step}
use Rattle.bg_history_laws.proofs.Promised.Sizes.{down-not_newest}
use Rattle.bg_history_laws.proofs.Promised.OpenRequests.{open-apart, at-one}
use Rattle.bg_history_laws.proofs.Finding.{found, none-passes}
use Rattle.bg_history_laws.proofs.Lists.{filter-swap}
use Rattle.bg_history_laws.proofs.Ended.Leaving.{open-other}

-- a request that leaves marks no revision
mark-left : (s : Strategy) (seat number r : ℕ) (past : List Entry) (q : ℕ) → mark s q (Leave seat number r ∷ past) ≡ mark s q past
mark-left s seat number r past q =
    ap (λ k. option_or (option_map (λ kind. record { kind = kind; moment = moment past; position = length past }) k) (mark s q past)) (by-active (active_of past == q)) where
      by-active : (a : Bool) → cond (a && not a && true) (Some Left) (cond (false || (not a && a) || false || false) (Some Cleared) None) ≡ None
      by-active true = refl
      by-active false = refl

-- a request that leaves makes no revision due
marks_due-left : (s : Strategy) (m : Option Mark) (seat number r : ℕ) (past : List Entry) → marks_due s m (Leave seat number r ∷ past) ≡ marks_due s m past
marks_due-left s None seat number r past = refl
marks_due-left s (Some m) seat number r past = simp (mark-left s seat number r past)

due-left : (s : Strategy) (q : ℕ) (seat number r : ℕ) (past : List Entry) → is_due s q (Leave seat number r ∷ past) ≡ is_due s q past
due-left s q seat number r past =
    ap (λ b. exists_in q past && is_spare s q past && b) (ap (λ m. marks_due s m (Leave seat number r ∷ past)) (mark-left s seat number r past q) ∙ marks_due-left s (mark s q past) seat number r past)

none-without : (number : ℕ) (ys : List Request) → map (λ x. x.number) ys ≡ number ∷ [] → filter (λ x. not (x.number == number)) ys ≡ []
none-without number [] h = absurd (cc)
none-without number (y ∷ []) h = let e : y.number ≡ number = cc in rw (e, equal_itself number) refl
none-without number (y ∷ z ∷ rest) h = absurd (cc)

empty-left : (seat number r : ℕ) (past : List Entry) → open_at r past ≡ number ∷ [] → open_at r (Leave seat number r ∷ past) ≡ []
empty-left seat number r past last =
    ap (map (λ x. x.number))
    (filter-swap (λ x. x.revision == r) (λ x. not (x.number == number)) (open_requests past) ∙ none-without number (filter (λ x. x.revision == r) (open_requests past)) last)

-- if no outcome is allowed, no step of an attempt is allowed, and no revision may be scaled down
record AllDone (s : Strategy) (past : List Entry) : Type 0 where
  no_step : first_promotion s past ≡ None
  no_lowering : find (λ q. may_scale_down s q past) (existing past) ≡ None

all-done : (s : Strategy) (past : List Entry) → is_settled s past ≡ true → AllDone s past
all-done s past h =
    let parts = go (first_promotion s past) (find (λ q. may_scale_down s q past) (existing past)) (find (λ q. may_remove s q past) (existing past)) h in
    record { no_step = parts.0; no_lowering = parts.1 } where
      go : (a : Option outcome.Outcome) (b c : Option ℕ) → is_none (option_or a (option_or (option_map ScaledDown b) (option_map Removed c))) ≡ true → (a ≡ None) × (b ≡ None)
      go None None c h = (refl, refl)
      go None (Some b) c h = absurd (cc)
      go (Some a) b c h = absurd (cc)

-- a revision that is due exists
due-exists : (s : Strategy) (r : ℕ) (past : List Entry) → is_due s r past ≡ true → exists_in r past ≡ true
due-exists s r past due = (and_parts (exists_in r past) (is_spare s r past) (and_parts (exists_in r past && is_spare s r past) (marks_due s (mark s r past) past) due).0).0

-- once its last request left, a revision that is due may be scaled down
may-lower : (s : Strategy) (seat number r : ℕ) (past : List Entry) → is_due s r past ≡ true → open_at r past ≡ number ∷ [] → may_scale_down s r (Leave seat number r ∷ past) ≡ true
may-lower s seat number r past due last =
    and_both (is_due s r (Leave seat number r ∷ past)) (is_empty (open_at r (Leave seat number r ∷ past))) (due-left s r seat number r past ∙ due)
    (ap is_empty (empty-left seat number r past last))

-- the same for equal numbers and revisions
at-names : (m k number r : ℕ) (xs : List Request) → m ≡ number → k ≡ r → list_all (λ x. not (x.number == m) || (x.revision == k)) xs ≡ true
    → list_all (λ x. not (x.number == number) || (x.revision == r)) xs ≡ true
at-names m k number r xs e f h = rw (← e, ← f) h

-- the only open request at r
record IsLast (number r : ℕ) (xs : List Request) : Type 0 where
  q : Request
  is : find (λ x. x.revision == r) xs ≡ Some q
  number_is : q.number ≡ number
  revision_is : q.revision ≡ r

last-one : (number r : ℕ) (xs : List Request) → map (λ x. x.number) (filter (λ x. x.revision == r) xs) ≡ number ∷ [] → IsLast number r xs
last-one number r [] h = absurd (cc)
last-one number r (x ∷ xs) h = go (x.revision == r) refl h (last-one number r xs) where
  go : (b : Bool) → (x.revision == r) ≡ b → map (λ x. x.number) (cond b (x ∷ filter (λ x. x.revision == r) xs) (filter (λ x. x.revision == r) xs)) ≡ number ∷ []
      → (map (λ x. x.number) (filter (λ x. x.revision == r) xs) ≡ number ∷ [] → IsLast number r xs) → IsLast number r (x ∷ xs)
  go true same h rest = record { q = x; is = rw same refl; number_is = cc; revision_is = equal_numbers x.revision r same }
  go false other h rest = let one = rest h in record { q = one.q; is = rw other one.is; number_is = one.number_is; revision_is = one.revision_is }

-- after the last request left, the first outcome scales its revision down
first-lowers : (s : Strategy) (o : Opening) (seat number r : ℕ) (past : List Entry) (x : outcome.Outcome) → all_allowed s o past ≡ true → is_settled s past ≡ true
    → is_due s r past ≡ true → open_at r past ≡ number ∷ [] → first_allowed s (Leave seat number r ∷ past) ≡ Some x
    → x ≡ ScaledDown r
first-lowers s o seat number r past x a settled due last first =
    by-found (find (λ q. may_scale_down s q after) (existing past)) refl
    (ap (λ t. option_or t (option_or (option_map ScaledDown (find (λ q. may_scale_down s q after) (existing past))) (option_map Removed (find (λ q. may_remove s q after) (existing past))))) (sym done.no_step) ∙ first) where
      after : List Entry
      after = Leave seat number r ∷ past

      done : AllDone s past
      done = all-done s past settled

      one : IsLast number r (open_requests past)
      one = last-one number r (open_requests past) last

      at : list_all (λ x. not (x.number == number) || (x.revision == r)) (open_requests past) ≡ true
      at = at-names one.q.number one.q.revision number r (open_requests past) one.number_is one.revision_is (at-one (λ q. q.revision == r) one.q (open_requests past) (open-apart s o past a) one.is)

      here : exists_in r past ≡ true
      here = due-exists s r past due

      lowers : may_scale_down s r after ≡ true
      lowers = may-lower s seat number r past due last

      -- no other revision may be scaled down, since none might before
      not_other : (q : ℕ) → exists_in q past ≡ true → may_scale_down s q after ≡ true → (r == q) ≡ false → ⊥
      not_other q there h other =
          let parts = and_parts (is_due s q after) (is_empty (open_at q after)) h in
          let was : may_scale_down s q past ≡ true = and_both (is_due s q past) (is_empty (open_at q past)) (sym (due-left s q seat number r past) ∙ parts.0)
          (ap (λ held. is_empty (map (λ o. o.number) held)) (sym (open-other number r q (open_requests past) other at)) ∙ parts.1) in
          both_ways (may_scale_down s q past) was (none-passes (λ q. may_scale_down s q past) q (existing past) done.no_lowering there)

      same : (q : ℕ) → exists_in q past ≡ true → may_scale_down s q after ≡ true → q ≡ r
      same q there h = go (r == q) refl where
        go : (b : Bool) → (r == q) ≡ b → q ≡ r
        go true is = sym (equal_numbers r q is)
        go false is = absurd (not_other q there h is)

      by-found : (k : Option ℕ) → find (λ q. may_scale_down s q after) (existing past) ≡ k
          → option_or None (option_or (option_map ScaledDown (find (λ q. may_scale_down s q after) (existing past))) (option_map Removed (find (λ q. may_remove s q after) (existing past)))) ≡ Some x
          → x ≡ ScaledDown r
      by-found None is h = both_ways (may_scale_down s r after) lowers (none-passes (λ q. may_scale_down s q after) r (existing past) is here)
      by-found (Some q) is h =
          let there = found (λ q. may_scale_down s q after) q (existing past) is in
          let it : ScaledDown q ≡ x = same_Some (ScaledDown q) x
          (ap (λ k. option_or (option_map ScaledDown k) (option_map Removed (find (λ q. may_remove s q after) (existing past)))) (sym is) ∙ h) in
          sym it ∙ ap ScaledDown (same q there.1 there.0)

-- r is scaled down, and isn't the revision of a running attempt
record StaysDown (s : Strategy) (r : ℕ) (past : List Entry) : Type 0 where
  unwanted : desired s r past ≡ 0
  unavailable : available r past ≡ 0
  apart : is_running past ≡ true → (r == newest_of past) ≡ false

-- each outcome keeps this
down-kept : (s : Strategy) (o : Opening) (r : ℕ) (x : outcome.Outcome) (p : List Entry) → is_allowed s o (Outcome x) p ≡ true → StaysDown s r p → StaysDown s r (Outcome x ∷ p)
down-kept s o r (Ready q) p may h = record { unwanted = h.unwanted; unavailable = h.unavailable; apart = h.apart }
down-kept s o r (Resumed q) p may h =
    let is = resumed-step s q p may in
    let other : (q == r) ≡ false = let e : q ≡ newest_of p = is.newest in let k : (r == newest_of p) ≡ false = h.apart is.runs in grind (arith, nat_tests) in
    record { unwanted = rw other h.unwanted; unavailable = h.unavailable; apart = h.apart }
down-kept s o r (Switched q) p may h = record { unwanted = h.unwanted; unavailable = h.unavailable; apart = h.apart }
down-kept s o r (Promoted q) p may h = record { unwanted = h.unwanted; unavailable = h.unavailable; apart = λ k. absurd (cc) }
down-kept s o r (ScaledDown q) p may h = record { unwanted = zero-either (q == r) (desired s r p) h.unwanted; unavailable = zero-either (q == r) (available r p) h.unavailable; apart = h.apart } where
  zero-either : (b : Bool) (n : ℕ) → n ≡ 0 → cond b 0 n ≡ 0
  zero-either true n h = refl
  zero-either false n h = h
down-kept s o r (Removed q) p may h = record { unwanted = h.unwanted; unavailable = h.unavailable; apart = h.apart }

-- this holds after r is scaled down
down-now : (s : Strategy) (r : ℕ) (past : List Entry) → may_scale_down s r past ≡ true → StaysDown s r (Outcome (ScaledDown r) ∷ past)
down-now s r past may = record {
  unwanted = rw (equal_itself r) refl;
  unavailable = rw (equal_itself r) refl;
  apart = λ runs. down-not_newest s r past runs may;
}

-- so it holds after all outcomes that follow, if one of them scales r down
down-after : (s : Strategy) (o : Opening) (r : ℕ) (past : List Entry) (xs : List outcome.Outcome) → ((x : outcome.Outcome) → first_allowed s past ≡ Some x → x ≡ ScaledDown r)
    → Follows s xs past → (xs ≡ []) ⊎ StaysDown s r (with_outcomes xs past)
down-after s o r past [] first f = inl refl
down-after s o r past (x ∷ []) first f =
    let is : x ≡ ScaledDown r = first x f.1 in
    let may : may_scale_down s r past ≡ true = subst (λ (y : outcome.Outcome). is_allowed s o (Outcome y) past ≡ true) is (first-allowed s o past x f.1) in
    inr (rw is (down-now s r past may))
down-after s o r past (x ∷ y ∷ ys) first f = go (down-after s o r past (y ∷ ys) first f.0) where
  go : ((y ∷ ys) ≡ []) ⊎ StaysDown s r (with_outcomes (y ∷ ys) past) → ((x ∷ y ∷ ys) ≡ []) ⊎ StaysDown s r (with_outcomes (x ∷ y ∷ ys) past)
  go (inl e) = absurd (cc)
  go (inr h) = inr (down-kept s o r x (with_outcomes (y ∷ ys) past) (first-allowed s o (with_outcomes (y ∷ ys) past) x f.1) h)

pub last-leave : (s : Strategy) (o : Opening) (past : List Entry) (seat number r : ℕ) (xs : List outcome.Outcome) (new : List Entry) → all_allowed s o past ≡ true → is_settled s past ≡ true
    → WaitsFor s number r past → Step s (Leave seat number r) past xs new → IsScaledDown s r new
last-leave s o past seat number r xs new a settled waits step =
    go (down-after s o r after xs (λ x first. first-lowers s o seat number r past x a settled waits.due waits.last first) step.follow) where
      after : List Entry
      after = Leave seat number r ∷ past

      go : (xs ≡ []) ⊎ StaysDown s r (with_outcomes xs after) → IsScaledDown s r new
      go (inl e) =
          let settled : is_settled s after ≡ true = ap (λ ys. is_settled s (with_outcomes ys after)) (sym e) ∙ ap (is_settled s) (sym step.new_is) ∙ step.settled in
          both_ways (may_scale_down s r after) (may-lower s seat number r past waits.due waits.last)
          (none-passes (λ q. may_scale_down s q after) r (existing past) (all-done s after settled).no_lowering (due-exists s r past waits.due))
      go (inr h) = let down : StaysDown s r new = subst (λ (p : List Entry). StaysDown s r p) (sym step.new_is) h in
          record { unscaled = ap (λ n. nat_le 1 n) down.unwanted; unavailable = down.unavailable }
