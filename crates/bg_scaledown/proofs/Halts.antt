-- The table of a past after an entry that halts the attempt.
use Rattle.std.proofs.Common.{◌≡◌, ◌+◌, ℕ, Bool, true, false, not, cond, ◌==◌, ◌&&◌, ◌||◌, nat_lt, List, ◌∷◌, Option, Some, None, refl, arith, ◌∙◌, ap, sym, ◌⊎◌, inl, inr}
use Rattle.std.proofs.lemmas.Bool.Decides.{nat_tests, eqb_tells}
use Rattle.bg_revisions.specs.declared.revision.Selectors.{Selectors}
use Rattle.bg_strategy.specs.declared.strategy.Strategy.{Strategy}
use Rattle.bg_history.specs.declared.entry.Entry.{Entry}
use Rattle.bg_history.specs.declared.entry.Entry.TheVariants.{Verdict, Abort}
use Rattle.bg_history.specs.declared.entry.Analysis.{Analysis}
use Rattle.bg_history.specs.declared.entry.AnalysisResult.{AnalysisResult}
use Rattle.bg_history.specs.declared.entry.AnalysisResult.TheVariants.{Successful, Failed, Error}
use Rattle.bg_history.specs.AttemptBounds.{moment}
use Rattle.bg_history.specs.Selections.{selectors_of}
use Rattle.bg_history.specs.Marks.{MarkKind, Left, Aborted, Cleared, has_abort_delay, kind_of}
use Rattle.bg_history.specs.declared.mark.RevisionMark.{RevisionMark}
use Rattle.bg_history.specs.declared.mark.Cause.TheVariants as cause
use Rattle.bg_scaledown.specs.Due.{marks_without}
use Rattle.bg_scaledown.specs.Events.{with_left, with_aborted, halted}
use Rattle.bg_history.specs.Tables.{stamps_of, marks_of}
use Rattle.bg_scaledown.proofs.PastTables.{marked, marked-twice, marks_without-twice, thrice, thrice-first, thrice-last, thrice-kinds, marks-step}

-- the effect of an abort on the newest revision
abbrev kind-of_newest : Bool → Option MarkKind
kind-of_newest delayed = cond delayed (Some Aborted) (Some Cleared)

-- the effect of an abort on q, with the selectors x before it
abbrev kind : Bool → Selectors → ℕ → Option MarkKind
kind delayed x q =
    cond ((x.active == q) && not (x.stable == q) && not (x.newest == q)) (Some Left)
    (cond (x.newest == q) (kind-of_newest delayed)
    (cond (not (x.active == q) && (x.stable == q)) (Some Cleared) None))

-- this is the kind of mark by the past
kind-by : (active stable newest delayed : Bool)
    → cond (active && not stable && not newest) (Some Left) (cond (newest && delayed) (Some Aborted) (cond ((not active && stable) || (newest && not delayed)) (Some Cleared) None))
    ≡ cond (active && not stable && not newest) (Some Left) (cond newest (kind-of_newest delayed) (cond (not active && stable) (Some Cleared) None))
kind-by true true true true = refl
kind-by true true true false = refl
kind-by true true false delayed = refl
kind-by true false true true = refl
kind-by true false true false = refl
kind-by true false false delayed = refl
kind-by false true true true = refl
kind-by false true true false = refl
kind-by false true false delayed = refl
kind-by false false true true = refl
kind-by false false true false = refl
kind-by false false false delayed = refl

kind-is_kind : (s : Strategy) (q : ℕ) (past : List Entry) → kind_of s q Abort past ≡ kind (has_abort_delay s) (selectors_of past) q
kind-is_kind s q past =
    let x : Selectors = selectors_of past in grind (arith, nat_tests, kind-by (x.active == q) (x.stable == q) (x.newest == q) (has_abort_delay s))

-- the newest revision is aborted
kind-newest : (b : Bool) (x : Selectors) → kind b x x.newest ≡ kind-of_newest b
kind-newest b x = grind (arith, nat_tests)

kind-active_newest : (b : Bool) (x : Selectors) → (x.active == x.newest) ≡ true → kind b x x.active ≡ kind-of_newest b
kind-active_newest b x newest = grind (arith, nat_tests)

kind-stable_newest : (b : Bool) (x : Selectors) → (x.newest == x.stable) ≡ true → kind b x x.stable ≡ kind-of_newest b
kind-stable_newest b x newest = grind (arith, nat_tests)

-- the stable revision is cleared if it is active again
kind-stable : (b : Bool) (x : Selectors) → (x.active == x.stable) ≡ false → (x.newest == x.stable) ≡ false → kind b x x.stable ≡ Some Cleared
kind-stable b x other older = grind (arith, nat_tests)

-- an older active revision leaves, and the stable one isn't changed
kind-left : (b : Bool) (x : Selectors) → (x.active == x.stable) ≡ false → (x.active == x.newest) ≡ false → kind b x x.active ≡ Some Left
kind-left b x other older = grind (arith, nat_tests)

kind-none : (b : Bool) (x : Selectors) → (x.active == x.stable) ≡ true → (x.active == x.newest) ≡ false → kind b x x.active ≡ None
kind-none b x same older = grind (arith, nat_tests)

kind-none_stable : (b : Bool) (x : Selectors) → (x.active == x.stable) ≡ true → (x.active == x.newest) ≡ false → kind b x x.stable ≡ None
kind-none_stable b x same older = grind (arith, nat_tests)

-- the call for the newest revision
marked-newest : (s : Strategy) (q at : ℕ) (marks : List RevisionMark) → marked s (kind-of_newest (has_abort_delay s)) q at marks ≡ with_aborted q at s.abort_delay marks
marked-newest s q at marks = go (nat_lt 0 s.abort_delay) where
  go : (b : Bool) → marked s (kind-of_newest b) q at marks
      ≡ cond b (record { revision = q; cause = cause.Aborted; deadline = at + s.abort_delay } ∷ marks_without q marks) (marks_without q marks)
  go true = refl
  go false = refl

-- a mark that the call drops needs no drop before
newest-dropped : (q n at delay : ℕ) (marks : List RevisionMark) → n ≡ q → with_aborted n at delay (marks_without q marks) ≡ with_aborted n at delay marks
newest-dropped q n at delay marks is = rw is (ap (λ ms. cond (nat_lt 0 delay) (record { revision = q; cause = cause.Aborted; deadline = at + delay } ∷ ms) ms) (marks_without-twice q marks))

-- the calls if the active revision is the stable one, which is the newest one or not
marked-same : (s : Strategy) (x : Selectors) (at : ℕ) (marks : List RevisionMark) (b : Bool) → (x.active == x.newest) ≡ b → x.active ≡ x.stable → (x.active == x.stable) ≡ true
    → thrice s (kind (has_abort_delay s) x) x.active x.newest x.stable at marks ≡ halted x at s.delay s.abort_delay marks
marked-same s x at marks true newest is same =
    let d : Bool = has_abort_delay s in
    let one : x.newest ≡ x.stable = grind (arith, nat_tests) in
    thrice-last s (kind d x) x.active x.newest x.stable at marks one
    ∙ ap (λ (q : ℕ). marked s (kind d x q) q at (marked s (kind d x x.stable) x.stable at marks)) is
    ∙ marked-twice s (kind d x x.stable) x.stable at marks
    ∙ ap (λ (q : ℕ). marked s (kind d x q) q at marks) (sym one)
    ∙ ap (λ k. marked s k x.newest at marks) (kind-newest d x)
    ∙ marked-newest s x.newest at marks
    ∙ rw same refl
marked-same s x at marks false older is same =
    let d : Bool = has_abort_delay s in
    rw (kind-none d x same older, kind-none_stable d x same older, kind-newest d x, same) (marked-newest s x.newest at marks)

-- the calls if the active revision is another one, and the newest one
marked-active_newest : (s : Strategy) (x : Selectors) (at : ℕ) (marks : List RevisionMark) → (x.active == x.stable) ≡ false → (x.active == x.newest) ≡ true → x.active ≡ x.newest
    → thrice s (kind (has_abort_delay s) x) x.active x.newest x.stable at marks ≡ halted x at s.delay s.abort_delay marks
marked-active_newest s x at marks other newest is =
    let d : Bool = has_abort_delay s in
    let older : (x.newest == x.stable) ≡ false = grind (arith, nat_tests) in
    thrice-first s (kind d x) x.active x.newest x.stable at marks is
    ∙ ap (λ (q : ℕ). marked s (kind d x q) q at (marked s (kind d x x.stable) x.stable at marks)) is
    ∙ rw (kind-newest d x, kind-stable d x other older, other, newest) (marked-newest s x.newest at (marks_without x.stable marks))

-- the calls if the active revision is an older one; the stable one is the newest one or not
marked-older : (s : Strategy) (x : Selectors) (at : ℕ) (marks : List RevisionMark) (b : Bool) → (x.newest == x.stable) ≡ b → (x.active == x.stable) ≡ false → (x.active == x.newest) ≡ false
    → thrice s (kind (has_abort_delay s) x) x.active x.newest x.stable at marks ≡ halted x at s.delay s.abort_delay marks
marked-older s x at marks true newest other older =
    let d : Bool = has_abort_delay s in
    let one : x.newest ≡ x.stable = grind (arith, nat_tests) in
    thrice-last s (kind d x) x.active x.newest x.stable at marks one
    ∙ ap (λ (q : ℕ). marked s (kind d x x.active) x.active at (marked s (kind d x q) q at marks)) (sym one)
    ∙ rw (kind-left d x other older, kind-newest d x, other, older)
    (ap (λ ms. with_left x.active (at + s.delay) ms) (marked-newest s x.newest at marks ∙ sym (newest-dropped x.stable x.newest at s.abort_delay marks one)))
marked-older s x at marks false apart other older =
    let d : Bool = has_abort_delay s in
    rw (kind-left d x other older, kind-newest d x, kind-stable d x other apart, other, older)
    (ap (λ ms. with_left x.active (at + s.delay) ms) (marked-newest s x.newest at (marks_without x.stable marks)))

-- in each case, the calls make the marks of a halt
thrice-halted : (s : Strategy) (x : Selectors) (at : ℕ) (marks : List RevisionMark)
    → thrice s (kind (has_abort_delay s) x) x.active x.newest x.stable at marks ≡ halted x at s.delay s.abort_delay marks
thrice-halted s x at marks = elim (eqb_tells x.active x.stable) [
  | inl h ↦ marked-same s x at marks (x.active == x.newest) refl h.1 h.0
  | inr h ↦ elim (eqb_tells x.active x.newest) [
    | inl g ↦ marked-active_newest s x at marks h.0 g.0 g.1
    | inr g ↦ marked-older s x at marks (x.newest == x.stable) refl h.0 g.0
  ]
]

-- the marks after an abort
pub marks-abort : (s : Strategy) (past : List Entry) → marks_of (stamps_of s (Abort ∷ past)) ≡ halted (selectors_of past) (moment past) s.delay s.abort_delay (marks_of (stamps_of s past))
marks-abort s past =
    let x : Selectors = selectors_of past in
    let marks : List RevisionMark = marks_of (stamps_of s past) in
    marks-step s Abort past
    ∙ thrice-kinds s (λ q. kind_of s q Abort past) (kind (has_abort_delay s) x) x.active x.newest x.stable (moment past) marks (λ q. kind-is_kind s q past)
    ∙ thrice-halted s x (moment past) marks

-- a verdict of failed or error makes the same marks as an abort
pub marks-verdict : (s : Strategy) (analysis : Analysis) (finding : AnalysisResult) (past : List Entry) → (finding ≡ Failed) ⊎ (finding ≡ Error)
    → marks_of (stamps_of s (Verdict analysis finding ∷ past)) ≡ halted (selectors_of past) (moment past) s.delay s.abort_delay (marks_of (stamps_of s past))
marks-verdict s analysis Failed past is = marks-abort s past
marks-verdict s analysis Error past is = marks-abort s past
marks-verdict s analysis Successful past (inl is) = absurd (cc)
marks-verdict s analysis Successful past (inr is) = absurd (cc)
