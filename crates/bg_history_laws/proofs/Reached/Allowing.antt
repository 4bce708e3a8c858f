-- What an allowed entry says of the past before it.
use Rattle.std.proofs.Common.{◌≡◌, ◌<◌, ◌+◌, ℕ, Bool, true, false, not, cond, ◌==◌, ◌&&◌, nat_lt, List, [], ◌∷◌, length, filter, Option, Some, None, refl, arith, ap, sym, ◌∙◌, ◌⊎◌, inl, inr}
use Rattle.std.proofs.lemmas.Bool.Decides.{nat_tests}
use Rattle.bg_strategy.specs.declared.strategy.Strategy.{Strategy}
use Rattle.bg_history.specs.declared.entry.Entry.{Entry}
use Rattle.bg_history.specs.Kept.{Opening}
use Rattle.bg_history.specs.AttemptBounds.{newest_of, is_running}
use Rattle.bg_history.specs.Attempts.{has_ready, has_resumed, has_switched}
use Rattle.bg_history.specs.Selections.{is_selected}
use Rattle.bg_history.specs.Sizes.{existing, last_number, available, is_scaled}
use Rattle.bg_history.specs.Promotion.{attempts, may_resume, may_switch, may_promote}
use Rattle.bg_history.specs.Requests.{open_at}
use Rattle.bg_history.specs.Marks.{mark}
use Rattle.bg_history.specs.Deadlines.{exists_in, is_spare, marks_due, is_empty, may_scale_down, is_old, old_revisions, is_first, may_remove}
use Rattle.bg_history.specs.Templates.{template, is_named, has_ports, namesake}
use Rattle.bg_history.specs.Allowed.{is_template, fits_namesake, may_deploy, is_allowed}
use Rattle.bg_history.specs.Steps.{all_allowed}
use Rattle.bg_history_laws.proofs.Tests.{and_parts, not_true, equal_numbers}
use Rattle.bg_history_laws.proofs.Finding.{found, none-passes}

-- the newest entry of a past whose entries were allowed was allowed
pub allowed_now : (s : Strategy) (o : Opening) (e : Entry) (before : List Entry) → all_allowed s o (e ∷ before) ≡ true → is_allowed s o e before ≡ true
allowed_now s o e before h = (and_parts (is_allowed s o e before) (all_allowed s o before) h).0

-- the entries before it were allowed
pub allowed_before : (s : Strategy) (o : Opening) (e : Entry) (before : List Entry) → all_allowed s o (e ∷ before) ≡ true → all_allowed s o before ≡ true
allowed_before s o e before h = (and_parts (is_allowed s o e before) (all_allowed s o before) h).1

-- an attempt belongs to the newest revision
attempts-newest : (r : ℕ) (past : List Entry) → attempts r past ≡ true → r ≡ newest_of past
attempts-newest r past h = equal_numbers r (newest_of past) (and_parts (is_running past) (r == newest_of past) h).1

-- so the revision that grows to full size is the newest one
pub resumed-newest : (s : Strategy) (r : ℕ) (past : List Entry) → may_resume s r past ≡ true → r ≡ newest_of past
resumed-newest s r past h =
    attempts-newest r past (and_parts (attempts r past) (has_ready past) (and_parts _ (not (has_resumed past)) (and_parts (attempts r past && has_ready past && not (has_resumed past)) _ h).0).0).0

-- a switch is a step of an attempt
switched-attempts : (s : Strategy) (r : ℕ) (past : List Entry) → may_switch s r past ≡ true → attempts r past ≡ true
switched-attempts s r past h =
    (and_parts (attempts r past) (has_resumed past) (and_parts _ (not (has_switched past)) (and_parts _ (available r past == s.replicas) h).0).0).0

-- so a switch is to the newest revision
pub switched-newest : (s : Strategy) (r : ℕ) (past : List Entry) → may_switch s r past ≡ true → r ≡ newest_of past
switched-newest s r past h = attempts-newest r past (switched-attempts s r past h)

-- a switch comes while the attempt runs
pub switched-running : (s : Strategy) (r : ℕ) (past : List Entry) → may_switch s r past ≡ true → is_running past ≡ true
switched-running s r past h = (and_parts (is_running past) (r == newest_of past) (switched-attempts s r past h)).0

-- a promotion is a step of an attempt that has switched
promoted-parts : (s : Strategy) (r : ℕ) (past : List Entry) → may_promote s r past ≡ true → (attempts r past ≡ true) × (has_switched past ≡ true)
promoted-parts s r past h = and_parts (attempts r past) (has_switched past) (and_parts (attempts r past && has_switched past) _ h).0

-- so a promotion is of the newest revision
pub promoted-newest : (s : Strategy) (r : ℕ) (past : List Entry) → may_promote s r past ≡ true → r ≡ newest_of past
promoted-newest s r past h = attempts-newest r past (promoted-parts s r past h).0

-- a promotion comes while the attempt of its revision runs
pub promoted-running : (s : Strategy) (r : ℕ) (past : List Entry) → may_promote s r past ≡ true → is_running past ≡ true
promoted-running s r past h = (and_parts (is_running past) (r == newest_of past) (promoted-parts s r past h).0).0

-- a promotion comes after the switch
pub promoted-switched : (s : Strategy) (r : ℕ) (past : List Entry) → may_promote s r past ≡ true → has_switched past ≡ true
promoted-switched s r past h = (promoted-parts s r past h).1

-- a revision that is scaled down isn't selected, is due by its mark, and has no open request
pub record ScalesDown (s : Strategy) (r : ℕ) (past : List Entry) : Type 0 where
  pub unselected : is_selected r past ≡ false
  pub due : marks_due s (mark s r past) past ≡ true
  pub empty : is_empty (open_at r past) ≡ true

-- this holds of each revision that may be scaled down
pub scaled_down : (s : Strategy) (r : ℕ) (past : List Entry) → may_scale_down s r past ≡ true → ScalesDown s r past
scaled_down s r past h =
    let both = and_parts (exists_in r past && is_spare s r past && marks_due s (mark s r past) past) (is_empty (open_at r past)) h in
    let due = and_parts (exists_in r past && is_spare s r past) (marks_due s (mark s r past) past) both.0 in
    let spare = and_parts (exists_in r past) (is_spare s r past) due.0 in
    let two = and_parts (is_scaled s r past) (not (is_selected r past)) spare.1 in
    record { unselected = not_true (is_selected r past) two.1; due = due.1; empty = both.1 }

-- the first element that passes a test passes it
first-passes : (p : ℕ → Bool) (r : ℕ) (xs : List ℕ) → is_first r (filter p xs) ≡ true → p r ≡ true
first-passes p r [] h = absurd (cc)
first-passes p r (x ∷ xs) h = go (p x) refl h (first-passes p r xs) where
  go : (b : Bool) → p x ≡ b → is_first r (cond b (x ∷ filter p xs) (filter p xs)) ≡ true → (is_first r (filter p xs) ≡ true → p r ≡ true) → p r ≡ true
  go true is h rest = ap p (sym (equal_numbers x r h)) ∙ is
  go false is h rest = rest h

-- a revision that is removed isn't scaled, and isn't the newest one
removed-parts : (s : Strategy) (r : ℕ) (past : List Entry) → may_remove s r past ≡ true → (not (is_scaled s r past) && not (is_selected r past) ≡ true) × (not (r == newest_of past) ≡ true)
removed-parts s r past h =
    let first = (and_parts (nat_lt s.history_limit (length (old_revisions s past))) (is_first r (old_revisions s past)) h).1 in
    and_parts (not (is_scaled s r past) && not (is_selected r past)) (not (r == newest_of past)) (first-passes (is_old s past) r (existing past) first)

pub removed : (s : Strategy) (r : ℕ) (past : List Entry) → may_remove s r past ≡ true → is_scaled s r past ≡ false
removed s r past h = not_true (is_scaled s r past) (and_parts (not (is_scaled s r past)) (not (is_selected r past)) (removed-parts s r past h).0).0

pub removed-older : (s : Strategy) (r : ℕ) (past : List Entry) → may_remove s r past ≡ true → (r == newest_of past) ≡ false
removed-older s r past h = not_true (r == newest_of past) (removed-parts s r past h).1

-- the revision of a deploy exists and has that name and those ports
pub record Returns (o : Opening) (r : ℕ) (name ports : List ℕ) (past : List Entry) : Type 0 where
  pub exists : exists_in r past ≡ true
  pub same : is_template name ports (template o r past) ≡ true

-- or it has the next number, there is room for it, and no revision has its name
pub record Begins (o : Opening) (r : ℕ) (name : List ℕ) (past : List Entry) : Type 0 where
  pub next : r ≡ last_number past + 1
  pub room : length (existing past) < 64
  pub free : (q : ℕ) → exists_in q past ≡ true → is_named name (template o q past) ≡ false

-- the namesake of the name decides which of the two holds
deployed-namesake : (o : Opening) (r : ℕ) (name ports : List ℕ) (past : List Entry) (q : Option ℕ) → namesake o name past ≡ q → fits_namesake o q r ports past ≡ true
    → Returns o r name ports past ⊎ Begins o r name past
deployed-namesake o r name ports past None is h =
    let both = and_parts (r == last_number past + 1) (nat_lt (length (existing past)) 64) h in
    let room : nat_lt (length (existing past)) 64 ≡ true = both.1 in
    inr (record {
      next = equal_numbers r (last_number past + 1) both.0;
      room = grind (arith, nat_tests);
      free = λ q here. none-passes (λ q. is_named name (template o q past)) q (existing past) is here;
    })
deployed-namesake o r name ports past (Some q) is h =
    let both = and_parts (q == r) (has_ports ports (template o q past)) h in
    let e : q ≡ r = equal_numbers q r both.0 in
    let here = found (λ q. is_named name (template o q past)) q (existing past) is in
    inl (record {
      exists = rw (← e) here.1;
      same = rw (← e, here.0, both.1) refl;
    })

-- one of the two holds for each deploy
pub deployed : (s : Strategy) (o : Opening) (r : ℕ) (name ports : List ℕ) (past : List Entry) → may_deploy s o r name ports past ≡ true
    → Returns o r name ports past ⊎ Begins o r name past
deployed s o r name ports past h =
    deployed-namesake o r name ports past (namesake o name past) refl (and_parts _ (fits_namesake o (namesake o name past) r ports past) h).1

-- no deploy has the newest revision's template
pub deployed-other : (s : Strategy) (o : Opening) (r : ℕ) (name ports : List ℕ) (past : List Entry) → may_deploy s o r name ports past ≡ true
    → is_template name ports (template o (newest_of past) past) ≡ false
deployed-other s o r name ports past h =
    not_true (is_template name ports (template o (newest_of past) past))
    (and_parts _ (not (is_template name ports (template o (newest_of past) past))) (and_parts _ (fits_namesake o (namesake o name past) r ports past) h).0).1
