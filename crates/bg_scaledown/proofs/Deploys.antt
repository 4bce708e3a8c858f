-- The table of a past after a deploy.
use Rattle.std.proofs.Common.{◌≡◌, ◌+◌, ℕ, Bool, true, false, not, cond, ◌==◌, ◌&&◌, ◌||◌, List, ◌∷◌, Option, Some, None, refl, arith, ◌∙◌, ap, sym, inl, inr}
use Rattle.std.proofs.lemmas.Bool.Decides.{nat_tests, eqb_tells}
use Rattle.bg_revisions.specs.declared.revision.Selectors.{Selectors}
use Rattle.bg_strategy.specs.declared.strategy.Strategy.{Strategy}
use Rattle.bg_history.specs.declared.entry.Entry.{Entry}
use Rattle.bg_history.specs.declared.entry.Entry.TheVariants.{Deploy}
use Rattle.bg_history.specs.AttemptBounds.{moment, newest_of}
use Rattle.bg_history.specs.Sizes.{is_scaled}
use Rattle.bg_history.specs.Selections.{selectors_of}
use Rattle.bg_history.specs.Marks.{MarkKind, Left, Superseded, Cleared, kind_of}
use Rattle.bg_history.specs.declared.mark.RevisionMark.{RevisionMark}
use Rattle.bg_history.specs.declared.mark.Cause.TheVariants as cause
use Rattle.bg_scaledown.specs.Due.{marks_without}
use Rattle.bg_scaledown.specs.Events.{takes_up, supersedes_newest, goes_back, with_left, with_superseded, cleared, replaced, deployed}
use Rattle.bg_history.specs.Tables.{stamps_of, marks_of}
use Rattle.bg_scaledown.proofs.PastTables.{marked, marks_without-twice, marks_without-again, marks_without-same, thrice, thrice-first, thrice-last, thrice-kinds, marks-step}

-- the effect of a deploy of r on q, with the selectors x before it, depending on whether the newest one was scaled
abbrev kind : ℕ → Selectors → Bool → ℕ → Option MarkKind
kind r x scaled q =
    cond ((x.active == q) && (r == x.stable) && not (r == q)) (Some Left)
    (cond ((x.newest == q) && not (x.active == q) && not (x.stable == q) && scaled) (Some Superseded)
    (cond ((r == q) && (not (x.stable == q) || not (x.active == q))) (Some Cleared) None))

-- this is the kind of mark by the past, for q the newest one or another one
kind-is_kind : (s : Strategy) (r q : ℕ) (name ports : List ℕ) (past : List Entry)
    → kind_of s q (Deploy r name ports) past ≡ kind r (selectors_of past) (is_scaled s (newest_of past) past) q
kind-is_kind s r q name ports past = elim (eqb_tells (newest_of past) q) [
  | inl h ↦ rw (← h.1) (grind (arith, nat_tests))
  | inr h ↦ rw h.0 (grind (arith, nat_tests))
]

-- if the deploy goes back to the stable revision, the active one leaves
kind-left : (r : ℕ) (x : Selectors) (b : Bool) → goes_back r x ≡ true → kind r x b x.active ≡ Some Left
kind-left r x b back = grind (arith, nat_tests)

-- if the deploy takes the place of the newest revision, that one is superseded
kind-superseded : (r : ℕ) (x : Selectors) (b : Bool) → supersedes_newest x b ≡ true → kind r x b x.newest ≡ Some Superseded
kind-superseded r x b replaces = grind (arith, nat_tests)

-- the deploy clears the deployed revision if it takes it up, and doesn't change it otherwise
kind-cleared : (r : ℕ) (x : Selectors) (b : Bool) → takes_up r x ≡ true → (supersedes_newest x b && (x.newest == r)) ≡ false → kind r x b r ≡ Some Cleared
kind-cleared r x b takes other = grind (arith, nat_tests)

kind-none : (r : ℕ) (x : Selectors) (b : Bool) → takes_up r x ≡ false → kind r x b r ≡ None
kind-none r x b keeps = grind (arith, nat_tests)

-- another active or newest revision isn't changed
kind-active_none : (r : ℕ) (x : Selectors) (b : Bool) → goes_back r x ≡ false → (takes_up r x && (x.active == r)) ≡ false → kind r x b x.active ≡ None
kind-active_none r x b stays other = grind (arith, nat_tests)

kind-newest_none : (r : ℕ) (x : Selectors) (b : Bool) → (x.newest == x.active) ≡ false → supersedes_newest x b ≡ false → (x.newest == r) ≡ false → kind r x b x.newest ≡ None
kind-newest_none r x b other keeps new = grind (arith, nat_tests)

-- the active revision is cleared if it is the deployed one
kind-active_cleared : (r : ℕ) (x : Selectors) (b : Bool) → takes_up r x ≡ true → (x.active == r) ≡ true → kind r x b x.active ≡ Some Cleared
kind-active_cleared r x b takes active = grind (arith, nat_tests)

-- the call for the deployed revision clears it, unless it is superseded
marked-cleared : (s : Strategy) (r : ℕ) (x : Selectors) (b : Bool) (at : ℕ) (marks : List RevisionMark) → (supersedes_newest x b && (x.newest == r)) ≡ false
    → marked s (kind r x b r) r at marks ≡ cleared r x marks
marked-cleared s r x b at marks other = go (takes_up r x) refl where
  go : (t : Bool) → takes_up r x ≡ t → marked s (kind r x b r) r at marks ≡ cond t (marks_without r marks) marks
  go true takes = rw (kind-cleared r x b takes other) refl
  go false keeps = rw (kind-none r x b keeps) refl

-- a mark that is dropped before another one is superseded needs no second drop
again-superseded : (a n r at : ℕ) (marks : List RevisionMark) → r ≡ a → (n == r) ≡ false → marks_without a (with_superseded n at (marks_without r marks)) ≡ with_superseded n at (marks_without r marks)
again-superseded a n r at marks is other =
    ap (λ q. marks_without q (with_superseded n at (marks_without r marks))) (sym is)
    ∙ rw other (ap (λ ms. record { revision = n; cause = cause.Superseded; deadline = at } ∷ ms) (marks_without-again r n marks))

-- a deploy of the active revision clears it once
without-replaced : (r : ℕ) (x : Selectors) (b : Bool) (at : ℕ) (marks : List RevisionMark) → takes_up r x ≡ true → r ≡ x.active
    → marks_without x.active (replaced r x b at marks) ≡ replaced r x b at marks
without-replaced r x b at marks takes active = go (supersedes_newest x b) refl where
  go : (t : Bool) → supersedes_newest x b ≡ t
      → marks_without x.active (cond t (with_superseded x.newest at (cleared r x marks)) (cleared r x marks)) ≡ cond t (with_superseded x.newest at (cleared r x marks)) (cleared r x marks)
  go true replaces = let other : (x.newest == r) ≡ false = grind (arith, nat_tests) in rw takes (again-superseded x.active x.newest r at marks active other)
  go false keeps = rw takes (marks_without-same x.active r marks active)

-- the call for the active revision comes last
marked-replaced : (s : Strategy) (r : ℕ) (x : Selectors) (b : Bool) (at : ℕ) (marks : List RevisionMark)
    → marked s (kind r x b x.active) x.active at (replaced r x b at marks) ≡ deployed r x b at s.delay marks
marked-replaced s r x b at marks = go (goes_back r x) (takes_up r x && (x.active == r)) refl refl where
  go : (t c : Bool) → goes_back r x ≡ t → (takes_up r x && (x.active == r)) ≡ c
      → marked s (kind r x b x.active) x.active at (replaced r x b at marks) ≡ cond t (with_left x.active (at + s.delay) (replaced r x b at marks)) (replaced r x b at marks)
  go true c back is = rw (kind-left r x b back) refl
  go false true stays is =
      let takes : takes_up r x ≡ true = grind (arith, nat_tests) in
      rw (kind-active_cleared r x b takes (grind (arith, nat_tests))) (without-replaced r x b at marks takes (grind (arith, nat_tests)))
  go false false stays is = rw (kind-active_none r x b stays is) refl

-- the call for the newest revision if it is superseded
marked-newest : (s : Strategy) (r : ℕ) (x : Selectors) (b : Bool) (at : ℕ) (marks : List RevisionMark) → supersedes_newest x b ≡ true → (x.newest == r) ≡ false
    → marked s (kind r x b x.newest) x.newest at (marked s (kind r x b r) r at marks) ≡ replaced r x b at marks
marked-newest s r x b at marks replaces other =
    let other_too : (supersedes_newest x b && (x.newest == r)) ≡ false = rw (replaces, other) refl in
    ap (λ k. marked s k x.newest at (marked s (kind r x b r) r at marks)) (kind-superseded r x b replaces)
    ∙ ap (with_superseded x.newest at) (marked-cleared s r x b at marks other_too)
    ∙ rw replaces refl

-- the newest revision is the deployed one
marked-redeployed : (s : Strategy) (r : ℕ) (x : Selectors) (b : Bool) (at : ℕ) (marks : List RevisionMark) → supersedes_newest x b ≡ true → x.newest ≡ r
    → marked s (kind r x b r) r at marks ≡ replaced r x b at marks
marked-redeployed s r x b at marks replaces is =
    let superseded : kind r x b r ≡ Some Superseded = grind (arith, nat_tests) in
    let takes : takes_up r x ≡ true = grind (arith, nat_tests) in
    ap (λ k. marked s k r at marks) superseded
    ∙ sym (ap (λ ms. record { revision = r; cause = cause.Superseded; deadline = at } ∷ ms) (marks_without-twice r marks))
    ∙ ap (λ q. with_superseded q at (marks_without r marks)) (sym is)
    ∙ rw (replaces, takes) refl

-- the call for the newest revision if it isn't superseded
marked-kept : (s : Strategy) (r : ℕ) (x : Selectors) (b : Bool) (at : ℕ) (marks : List RevisionMark) → supersedes_newest x b ≡ false → marked s (kind r x b r) r at marks ≡ replaced r x b at marks
marked-kept s r x b at marks keeps = marked-cleared s r x b at marks (rw keeps refl) ∙ rw keeps refl

-- before the last call, the other calls made these marks
thrice-replaced : (s : Strategy) (r : ℕ) (x : Selectors) (b : Bool) (at : ℕ) (marks : List RevisionMark)
    → thrice s (kind r x b) x.active x.newest r at marks ≡ marked s (kind r x b x.active) x.active at (replaced r x b at marks)
thrice-replaced s r x b at marks = elim (eqb_tells x.newest x.active) [
  | inl h ↦
      thrice-first s (kind r x b) x.active x.newest r at marks (sym h.1)
      ∙ ap (marked s (kind r x b x.active) x.active at) (marked-kept s r x b at marks (rw h.0 refl))
  | inr h ↦ elim (eqb_tells x.newest r) [
    | inl g ↦
        thrice-last s (kind r x b) x.active x.newest r at marks g.1
        ∙ ap (marked s (kind r x b x.active) x.active at) (redeployed g.1 (supersedes_newest x b) refl)
    | inr g ↦ ap (marked s (kind r x b x.active) x.active at) (another h.0 g.0 (supersedes_newest x b) refl)
  ]
] where
  redeployed : x.newest ≡ r → (t : Bool) → supersedes_newest x b ≡ t → marked s (kind r x b r) r at marks ≡ replaced r x b at marks
  redeployed is true replaces = marked-redeployed s r x b at marks replaces is
  redeployed is false keeps = marked-kept s r x b at marks keeps

  another : (x.newest == x.active) ≡ false → (x.newest == r) ≡ false → (t : Bool) → supersedes_newest x b ≡ t
      → marked s (kind r x b x.newest) x.newest at (marked s (kind r x b r) r at marks) ≡ replaced r x b at marks
  another other new true replaces = marked-newest s r x b at marks replaces new
  another other new false keeps =
      ap (λ k. marked s k x.newest at (marked s (kind r x b r) r at marks)) (kind-newest_none r x b other keeps new)
      ∙ marked-kept s r x b at marks keeps

-- the marks after a deploy
pub marks-deploy : (s : Strategy) (r : ℕ) (name ports : List ℕ) (past : List Entry)
    → marks_of (stamps_of s (Deploy r name ports ∷ past))
    ≡ deployed r (selectors_of past) (is_scaled s (newest_of past) past) (moment past) s.delay (marks_of (stamps_of s past))
marks-deploy s r name ports past =
    let x : Selectors = selectors_of past in
    let b : Bool = is_scaled s (newest_of past) past in
    let marks : List RevisionMark = marks_of (stamps_of s past) in
    marks-step s (Deploy r name ports) past
    ∙ thrice-kinds s (λ q. kind_of s q (Deploy r name ports) past) (kind r x b) x.active x.newest r (moment past) marks (λ q. kind-is_kind s r q name ports past)
    ∙ thrice-replaced s r x b (moment past) marks
    ∙ marked-replaced s r x b (moment past) marks
