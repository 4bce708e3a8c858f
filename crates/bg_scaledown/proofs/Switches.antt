-- The table of a past after a switch, a scale-down or a retry.
use Rattle.std.proofs.Common.{◌≡◌, ℕ, Bool, true, false, ◌==◌, List, ◌∷◌, Some, None, refl, arith, ◌∙◌, ap}
use Rattle.std.proofs.lemmas.Bool.Decides.{nat_tests}
use Rattle.bg_strategy.specs.declared.strategy.Strategy.{Strategy}
use Rattle.bg_history.specs.declared.entry.Entry.{Entry}
use Rattle.bg_history.specs.declared.entry.Entry.TheVariants.{Retry, Outcome}
use Rattle.bg_history.specs.declared.entry.Outcome.TheVariants.{Switched, ScaledDown}
use Rattle.bg_history.specs.AttemptBounds.{moment, newest_of}
use Rattle.bg_history.specs.Selections.{active_of, selectors_of}
use Rattle.bg_history.specs.Marks.{Left, Cleared, kind_of}
use Rattle.bg_scaledown.specs.Due.{marks_without}
use Rattle.bg_scaledown.specs.Events.{switched}
use Rattle.bg_history.specs.Tables.{stamps_of, marks_of}
use Rattle.bg_scaledown.proofs.PastTables.{marked, marks-step}

-- the effect of a switch on the revision that was active and on the one that becomes active
kind-left : (s : Strategy) (r : ℕ) (past : List Entry) → (active_of past == r) ≡ false → kind_of s (active_of past) (Outcome (Switched r)) past ≡ Some Left
kind-left s r past other = grind (arith, nat_tests)

kind-cleared : (s : Strategy) (r : ℕ) (past : List Entry) → (active_of past == r) ≡ false → kind_of s r (Outcome (Switched r)) past ≡ Some Cleared
kind-cleared s r past other = grind (arith, nat_tests)

kind-kept : (s : Strategy) (q r : ℕ) (past : List Entry) → (active_of past == r) ≡ true → kind_of s q (Outcome (Switched r)) past ≡ None
kind-kept s q r past same = grind (arith, nat_tests)

-- the marks after a switch
pub marks-switch : (s : Strategy) (r : ℕ) (past : List Entry) → marks_of (stamps_of s (Outcome (Switched r) ∷ past)) ≡ switched r (selectors_of past) (moment past) s.delay (marks_of (stamps_of s past))
marks-switch s r past = marks-step s (Outcome (Switched r)) past ∙ go (active_of past == r) refl where
  go : (b : Bool) → (active_of past == r) ≡ b
      → marked s (kind_of s (active_of past) (Outcome (Switched r)) past) (active_of past) (moment past) (marked s (kind_of s r (Outcome (Switched r)) past) r (moment past) (marks_of (stamps_of s past)))
      ≡ switched r (selectors_of past) (moment past) s.delay (marks_of (stamps_of s past))
  go true same = rw (kind-kept s (active_of past) r past same, kind-kept s r r past same, same) refl
  go false other = rw (kind-left s r past other, kind-cleared s r past other, other) refl

-- the marks after a scale-down, and after a retry
kind-scaled : (s : Strategy) (r : ℕ) (past : List Entry) → kind_of s r (Outcome (ScaledDown r)) past ≡ Some Cleared
kind-scaled s r past = grind (arith, nat_tests)

pub marks-scaled_down : (s : Strategy) (r : ℕ) (past : List Entry) → marks_of (stamps_of s (Outcome (ScaledDown r) ∷ past)) ≡ marks_without r (marks_of (stamps_of s past))
marks-scaled_down s r past =
    marks-step s (Outcome (ScaledDown r)) past ∙ ap (λ k. marked s k r (moment past) (marks_of (stamps_of s past))) (kind-scaled s r past)

kind-retried : (s : Strategy) (past : List Entry) → kind_of s (newest_of past) Retry past ≡ Some Cleared
kind-retried s past = grind (arith, nat_tests)

pub marks-retry : (s : Strategy) (past : List Entry) → marks_of (stamps_of s (Retry ∷ past)) ≡ marks_without (newest_of past) (marks_of (stamps_of s past))
marks-retry s past =
    marks-step s Retry past ∙ ap (λ k. marked s k (newest_of past) (moment past) (marks_of (stamps_of s past))) (kind-retried s past)
