-- The active revision has no deadline. The newest one has none while an attempt runs.
use Rattle.std.proofs.Common.{◌≡◌, ◌≤◌, ◌+◌, ℕ, Bool, true, false, not, cond, ◌==◌, ◌&&◌, ◌||◌, List, [], ◌∷◌, length, Option, Some, None, refl, arith, ap, sym, subst, ◌∙◌, ◌⊎◌, inl, inr}
use Rattle.std.specs.Option.{option_or, option_map}
use Rattle.std.proofs.lemmas.Bool.Decides.{nat_tests, eqb_tells}
use Rattle.bg_strategy.specs.declared.strategy.Strategy.{Strategy}
use Rattle.bg_history.specs.declared.entry.Entry.{Entry}
use Rattle.bg_history.specs.declared.entry.Entry.TheVariants.{Deploy, Verdict, Abort, Retry, Outcome}
use Rattle.bg_history.specs.declared.entry.Outcome.TheVariants.{Switched, Promoted}
use Rattle.bg_history.specs.declared.entry.AnalysisResult.TheVariants.{Failed, Error}
use Rattle.bg_history.specs.Kept.{Opening}
use Rattle.bg_history.specs.AttemptBounds.{moment, stable_of, newest_of, is_halt, is_running, is_halted}
use Rattle.bg_history.specs.Selections.{active_of}
use Rattle.bg_history.specs.Sizes.{begins, last_number, is_scaled}
use Rattle.bg_history.specs.Marks.{Left, Superseded, Aborted, Cleared, halts, leaves_active, supersedes, scales_down, has_abort_delay, aborts, clears, mark}
use Rattle.bg_history.specs.Deadlines.{deadline_of, deadline}
use Rattle.bg_history.specs.Steps.{all_allowed}
use Rattle.bg_history.specs.Templates.{template}
use Rattle.bg_history.specs.Allowed.{is_template}
use Rattle.bg_history_laws.proofs.Tests.{not_true, equal_itself}
use Rattle.bg_history_laws.proofs.Reached.Allowing.{allowed_now, allowed_before, Returns, Begins, deployed, deployed-other, switched-newest}
use Rattle.bg_history_laws.proofs.Reached.Numbers.{newest-given}
use Rattle.bg_history_laws.proofs.Reached.Running.{halt-running, halt-active, newest_not_stable}

-- the deadline of r after the entry, depending on whether it left, was superseded, aborted or cleared
abbrev pub deadline_by : Strategy → ℕ → Entry → List Entry → Bool → Bool → Bool → Bool → Option ℕ
deadline_by s r e before left superseded aborted cleared =
    deadline_of s
    (option_or
    (option_map (λ kind. record { kind = kind; moment = moment (e ∷ before); position = length before })
    (cond left (Some Left) (cond superseded (Some Superseded) (cond aborted (Some Aborted) (cond cleared (Some Cleared) None)))))
    (mark s r before))

-- the entry gives r no deadline: r neither leaves nor is superseded or aborted
pub record GivesNone (s : Strategy) (r : ℕ) (e : Entry) (before : List Entry) : Type 0 where
  pub left : leaves_active r e before ≡ false
  pub superseded : supersedes s r e before ≡ false
  pub aborted : aborts s r e before ≡ false

-- a revision without a deadline that gets none has none
stays_unmarked : (s : Strategy) (r : ℕ) (e : Entry) (before : List Entry) → GivesNone s r e before → deadline s r before ≡ None → deadline s r (e ∷ before) ≡ None
stays_unmarked s r e before given none = go (leaves_active r e before) (supersedes s r e before) (aborts s r e before) (clears s r e before) given.left given.superseded given.aborted where
  go : (l u a c : Bool) → l ≡ false → u ≡ false → a ≡ false → deadline_by s r e before l u a c ≡ None
  go true u a c left superseded aborted = absurd (cc)
  go false true a c left superseded aborted = absurd (cc)
  go false false true c left superseded aborted = absurd (cc)
  go false false false true left superseded aborted = refl
  go false false false false left superseded aborted = none

-- a revision whose deadline is cleared has none
pub cleared_unmarked : (s : Strategy) (r : ℕ) (e : Entry) (before : List Entry) → GivesNone s r e before → clears s r e before ≡ true → deadline s r (e ∷ before) ≡ None
cleared_unmarked s r e before given cleared = go (leaves_active r e before) (supersedes s r e before) (aborts s r e before) (clears s r e before) given.left given.superseded given.aborted cleared where
  go : (l u a c : Bool) → l ≡ false → u ≡ false → a ≡ false → c ≡ true → deadline_by s r e before l u a c ≡ None
  go true u a c left superseded aborted cleared = absurd (cc)
  go false true a c left superseded aborted cleared = absurd (cc)
  go false false true c left superseded aborted cleared = absurd (cc)
  go false false false true left superseded aborted cleared = refl
  go false false false false left superseded aborted cleared = absurd (cc)

-- a revision that is active after an entry doesn't leave the active service at this entry
active_not_left : (e : Entry) (before : List Entry) → leaves_active (active_of (e ∷ before)) e before ≡ false
active_not_left e before =
    go (active_of before == active_of (e ∷ before)) (active_of (e ∷ before) == active_of (e ∷ before)) (halts (active_of (e ∷ before)) e before) (equal_itself (active_of (e ∷ before))) where
      go : (was is halted : Bool) → is ≡ true → was && not is && not halted ≡ false
      go true true halted h = refl
      go true false halted h = absurd (cc)
      go false is halted h = refl

-- it isn't superseded at this entry
active_not_superseded : (s : Strategy) (e : Entry) (before : List Entry) → supersedes s (active_of (e ∷ before)) e before ≡ false
active_not_superseded s (Deploy r name ports) before = go (r == stable_of before) refl where
  go : (b : Bool) → (r == stable_of before) ≡ b
      → (newest_of before == cond b r (active_of before)) && not (active_of before == cond b r (active_of before)) && not (stable_of before == cond b r (active_of before))
      && is_scaled s (cond b r (active_of before)) before ≡ false
  go true is = grind (arith, nat_tests)
  go false is = grind (arith, nat_tests)
active_not_superseded s _ before = refl

-- it isn't aborted at this entry: after a halt the stable revision is active, which isn't the newest one
stable_not_aborted : (s : Strategy) (o : Opening) (e : Entry) (before : List Entry) → all_allowed s o (e ∷ before) ≡ true → is_halt e ≡ true
    → (newest_of before == stable_of before) && has_abort_delay s ≡ false
stable_not_aborted s o e before a halt =
    ap (λ b. b && has_abort_delay s)
    (newest_not_stable s o before (allowed_before s o e before a) (ap (λ b. b || is_halted before) (halt-running s o e before a halt)))

active_not_aborted : (s : Strategy) (o : Opening) (e : Entry) (before : List Entry) → all_allowed s o (e ∷ before) ≡ true → aborts s (active_of (e ∷ before)) e before ≡ false
active_not_aborted s o e before a = go (is_halt e) refl where
  go : (halt : Bool) → is_halt e ≡ halt → (halt && (newest_of before == active_of (e ∷ before))) && has_abort_delay s ≡ false
  go true is = ap (λ r. (newest_of before == r) && has_abort_delay s) (halt-active e before is) ∙ stable_not_aborted s o e before a is
  go false is = refl

-- so it gets no deadline
active_given_none : (s : Strategy) (o : Opening) (e : Entry) (before : List Entry) → all_allowed s o (e ∷ before) ≡ true → GivesNone s (active_of (e ∷ before)) e before
active_given_none s o e before a = record {
  left = active_not_left e before;
  superseded = active_not_superseded s e before;
  aborted = active_not_aborted s o e before a;
}

-- the deadline of a revision that becomes active is cleared
active_cleared : (s : Strategy) (e : Entry) (before : List Entry) → (active_of before == active_of (e ∷ before)) ≡ false → clears s (active_of (e ∷ before)) e before ≡ true
active_cleared s e before other =
    let a : ℕ = active_of (e ∷ before) in
    go (begins a e before) (active_of before == a) (a == a) (scales_down a e) (halts a e before && not (has_abort_delay s)) other (equal_itself a) where
      go : (begun was is down halted : Bool) → was ≡ false → is ≡ true → begun || (not was && is) || down || halted ≡ true
      go true was is down halted h k = refl
      go false true is down halted h k = absurd (cc)
      go false false true down halted h k = refl
      go false false false down halted h k = absurd (cc)

-- the active revision has no deadline
pub active_unmarked : (s : Strategy) (o : Opening) (past : List Entry) → all_allowed s o past ≡ true → deadline s (active_of past) past ≡ None
active_unmarked s o [] a = refl
active_unmarked s o (e ∷ before) a = elim (eqb_tells (active_of before) (active_of (e ∷ before))) [
  | inl h ↦ stays_unmarked s (active_of (e ∷ before)) e before (active_given_none s o e before a)
      (subst (λ (r : ℕ). deadline s r before ≡ None) h.1 (active_unmarked s o before (allowed_before s o e before a)))
  | inr h ↦ cleared_unmarked s (active_of (e ∷ before)) e before (active_given_none s o e before a) (active_cleared s e before h.0)
]

-- a deploy is of a revision other than the newest one
deployed-older : (s : Strategy) (o : Opening) (r : ℕ) (name ports : List ℕ) (before : List Entry) → all_allowed s o (Deploy r name ports ∷ before) ≡ true
    → (newest_of before == r) ≡ false
deployed-older s o r name ports before a =
    let allowed = allowed_now s o (Deploy r name ports) before a in
    go (newest_of before == r) refl (deployed s o r name ports before allowed) (deployed-other s o r name ports before allowed) where
      go : (b : Bool) → (newest_of before == r) ≡ b → Returns o r name ports before ⊎ Begins o r name before → is_template name ports (template o (newest_of before) before) ≡ false → b ≡ false
      go false is d other = refl
      go true is (inl x) other =
          let e : newest_of before ≡ r = grind (arith, nat_tests) in
          let same : is_template name ports (template o (newest_of before) before) ≡ true = rw e x.same in
          sym same ∙ other
      go true is (inr x) other =
          let next : r ≡ last_number before + 1 = x.next in let le : newest_of before ≤ last_number before = newest-given before in
          grind (arith, nat_tests)

-- at an entry that keeps the active revision, no revision leaves
pub kept_active : (was other : Bool) → was && not was && other ≡ false
kept_active true other = refl
kept_active false other = refl

-- at a switch, the new active revision doesn't leave
switched_not_left : (was other : Bool) (r n : ℕ) → r ≡ n → was && not (r == n) && other ≡ false
switched_not_left true other r n is = rw (is, equal_itself n) refl
switched_not_left false other r n is = refl

-- at a deploy, only the active revision can leave, and only if the stable one is deployed
deployed_not_left : (r stable active : ℕ) (other : Bool) → (active == r) && not (cond (r == stable) r active == r) && other ≡ false
deployed_not_left r stable active other = grind (arith, nat_tests)

-- an attempt of the deployed revision begins, which clears its deadline
newest_unmarked-Deploy : (s : Strategy) (r : ℕ) (name ports : List ℕ) (before : List Entry) → (newest_of before == r) ≡ false → (r == stable_of before) ≡ false
    → deadline s r (Deploy r name ports ∷ before) ≡ None
newest_unmarked-Deploy s r name ports before older other =
    cleared_unmarked s r (Deploy r name ports) before
    (record {
      left = deployed_not_left r (stable_of before) (active_of before) (not (halts r (Deploy r name ports) before));
      superseded = ap (λ b. b && not (active_of before == r) && not (stable_of before == r) && is_scaled s r before) older;
      aborted = refl;
    })
    (rw (equal_itself r, other) refl)

-- a retry clears the deadline of the newest revision
newest_unmarked-Retry : (s : Strategy) (before : List Entry) → deadline s (newest_of before) (Retry ∷ before) ≡ None
newest_unmarked-Retry s before =
    cleared_unmarked s (newest_of before) Retry before (record { left = kept_active _ _; superseded = refl; aborted = refl })
    (rw (equal_itself (newest_of before)) refl)

-- while an attempt runs, the newest revision has no deadline
pub newest_unmarked : (s : Strategy) (o : Opening) (past : List Entry) → all_allowed s o past ≡ true → is_running past ≡ true → deadline s (newest_of past) past ≡ None
newest_unmarked s o [] a runs = absurd (cc)
newest_unmarked s o (Deploy r name ports ∷ before) a runs =
    newest_unmarked-Deploy s r name ports before (deployed-older s o r name ports before a) (not_true (r == stable_of before) runs)
newest_unmarked s o (Abort ∷ before) a runs = absurd (cc)
newest_unmarked s o (Verdict analysis Failed ∷ before) a runs = absurd (cc)
newest_unmarked s o (Verdict analysis Error ∷ before) a runs = absurd (cc)
newest_unmarked s o (Outcome (Promoted r) ∷ before) a runs = absurd (cc)
newest_unmarked s o (Retry ∷ before) a runs = newest_unmarked-Retry s before
newest_unmarked s o (Outcome (Switched r) ∷ before) a runs =
    stays_unmarked s (newest_of before) (Outcome (Switched r)) before
    (record {
      left = switched_not_left _ _ r (newest_of before) (switched-newest s r before (allowed_now s o (Outcome (Switched r)) before a));
      superseded = refl;
      aborted = refl;
    })
    (newest_unmarked s o before (allowed_before s o (Outcome (Switched r)) before a) runs)
newest_unmarked s o (e ∷ before) a runs =
    stays_unmarked s (newest_of before) e before (record { left = kept_active _ _; superseded = refl; aborted = refl })
    (newest_unmarked s o before (allowed_before s o e before a) runs)
