-- The table of a past, entry by entry.
use Rattle.std.proofs.Common.{◌≡◌, ◌+◌, ℕ, Bool, true, false, not, cond, ◌==◌, List, [], ◌∷◌, Option, Some, None, refl, arith, ◌∙◌, ap}
use Rattle.std.proofs.lemmas.Bool.Decides.{nat_tests}
use Rattle.bg_strategy.specs.declared.strategy.Strategy.{Strategy}
use Rattle.bg_history.specs.declared.entry.Entry.{Entry}
use Rattle.bg_history.specs.AttemptBounds.{moment}
use Rattle.bg_history.specs.Marks.{MarkKind, Left, Superseded, Aborted, Cleared, kind_of}
use Rattle.bg_history.specs.declared.mark.RevisionMark.{RevisionMark}
use Rattle.bg_history.specs.declared.mark.Cause.{Cause}
use Rattle.bg_history.specs.declared.mark.Cause.TheVariants as cause
use Rattle.bg_scaledown.specs.Due.{marks_without}
use Rattle.bg_history.specs.Tables.{Stamp, others, stamped, touched, stamp_all, stamps_of, marks_of}
use Rattle.bg_scaledown.proofs.Filters.{filter-swap, filter-twice}

-- the marks after the call of that kind for q: `left_active`, `superseded`, `aborted`, `clear` or none
abbrev pub marked : Strategy → Option MarkKind → ℕ → ℕ → List RevisionMark → List RevisionMark
marked s None q at marks = marks
marked s (Some Left) q at marks = record { revision = q; cause = cause.Left; deadline = at + s.delay } ∷ marks_without q marks
marked s (Some Superseded) q at marks = record { revision = q; cause = cause.Superseded; deadline = at } ∷ marks_without q marks
marked s (Some Aborted) q at marks = record { revision = q; cause = cause.Aborted; deadline = at + s.abort_delay } ∷ marks_without q marks
marked s (Some Cleared) q at marks = marks_without q marks

-- dropping the marks of a revision twice, or next to a new mark of it, is dropping them once
pub marks_without-twice : (q : ℕ) (marks : List RevisionMark) → marks_without q (marks_without q marks) ≡ marks_without q marks
marks_without-twice q marks = filter-twice (λ m. not (m.revision == q)) marks

without-marked : (q : ℕ) (c : Cause) (at : ℕ) (marks : List RevisionMark) → marks_without q (record { revision = q; cause = c; deadline = at } ∷ marks_without q marks) ≡ marks_without q marks
without-marked q c at marks = grind (arith, nat_tests, marks_without-twice q marks)

-- a mark that is dropped before others needs no second drop
pub marks_without-again : (q r : ℕ) (marks : List RevisionMark) → marks_without q (marks_without r (marks_without q marks)) ≡ marks_without r (marks_without q marks)
marks_without-again q r marks =
    let other : ℕ → RevisionMark → Bool = λ p m. not (m.revision == p) in
    filter-swap (other q) (other r) (marks_without q marks) ∙ ap (marks_without r) (marks_without-twice q marks)

-- it needs none under an equal number either
pub marks_without-same : (q r : ℕ) (marks : List RevisionMark) → r ≡ q → marks_without q (marks_without r marks) ≡ marks_without r marks
marks_without-same q r marks is = rw (← is) (marks_without-twice r marks)

-- the marks after these calls for several revisions, last one first
abbrev pub mark_all : Strategy → Entry → List Entry → List ℕ → List RevisionMark → List RevisionMark
mark_all s e before [] marks = marks
mark_all s e before (q ∷ qs) marks = marked s (kind_of s q e before) q (moment (e ∷ before)) (mark_all s e before qs marks)

-- the marks of the stamps that stay are the marks that stay
marks-others : (r : ℕ) (stamps : List Stamp) → marks_of (others r stamps) ≡ marks_without r (marks_of stamps)
marks-others r [] = refl
marks-others r (stamp ∷ stamps) = go (stamp.mark.revision == r) (marks-others r stamps) where
  go : (b : Bool) → marks_of (others r stamps) ≡ marks_without r (marks_of stamps)
      → marks_of (cond (not b) (stamp ∷ others r stamps) (others r stamps)) ≡ cond (not b) (stamp.mark ∷ marks_without r (marks_of stamps)) (marks_without r (marks_of stamps))
  go true h = h
  go false h = ap (λ marks. stamp.mark ∷ marks) h

-- the call has the effect on the marks that a stamp has on the stamps
marks-stamped : (s : Strategy) (k : Option MarkKind) (q at position : ℕ) (stamps : List Stamp) → marks_of (stamped s k q at position stamps) ≡ marked s k q at (marks_of stamps)
marks-stamped s None q at position stamps = refl
marks-stamped s (Some Left) q at position stamps = ap (λ marks. record { revision = q; cause = cause.Left; deadline = at + s.delay } ∷ marks) (marks-others q stamps)
marks-stamped s (Some Superseded) q at position stamps = ap (λ marks. record { revision = q; cause = cause.Superseded; deadline = at } ∷ marks) (marks-others q stamps)
marks-stamped s (Some Aborted) q at position stamps = ap (λ marks. record { revision = q; cause = cause.Aborted; deadline = at + s.abort_delay } ∷ marks) (marks-others q stamps)
marks-stamped s (Some Cleared) q at position stamps = marks-others q stamps

marks-stamp_all : (s : Strategy) (e : Entry) (before : List Entry) (qs : List ℕ) (stamps : List Stamp) → marks_of (stamp_all s e before qs stamps) ≡ mark_all s e before qs (marks_of stamps)
marks-stamp_all s e before [] stamps = refl
marks-stamp_all s e before (q ∷ qs) stamps =
    marks-stamped s (kind_of s q e before) q (moment (e ∷ before)) _ (stamp_all s e before qs stamps)
    ∙ ap (marked s (kind_of s q e before) q (moment (e ∷ before))) (marks-stamp_all s e before qs stamps)

-- one more entry makes these calls for the revisions that it touches
pub marks-step : (s : Strategy) (e : Entry) (before : List Entry) → marks_of (stamps_of s (e ∷ before)) ≡ mark_all s e before (touched e before) (marks_of (stamps_of s before))
marks-step s e before = marks-stamp_all s e before (touched e before) (stamps_of s before)

-- the same call twice has the effect of one
pub marked-twice : (s : Strategy) (k : Option MarkKind) (q at : ℕ) (marks : List RevisionMark) → marked s k q at (marked s k q at marks) ≡ marked s k q at marks
marked-twice s None q at marks = refl
marked-twice s (Some Left) q at marks = ap (λ ms. record { revision = q; cause = cause.Left; deadline = at + s.delay } ∷ ms) (without-marked q cause.Left (at + s.delay) marks)
marked-twice s (Some Superseded) q at marks = ap (λ ms. record { revision = q; cause = cause.Superseded; deadline = at } ∷ ms) (without-marked q cause.Superseded at marks)
marked-twice s (Some Aborted) q at marks = ap (λ ms. record { revision = q; cause = cause.Aborted; deadline = at + s.abort_delay } ∷ ms) (without-marked q cause.Aborted (at + s.abort_delay) marks)
marked-twice s (Some Cleared) q at marks = marks_without-twice q marks

-- the calls for three revisions, last one first, by the effect of the entry on each
abbrev pub thrice : Strategy → (ℕ → Option MarkKind) → ℕ → ℕ → ℕ → ℕ → List RevisionMark → List RevisionMark
thrice s kind a b c at marks = marked s (kind a) a at (marked s (kind b) b at (marked s (kind c) c at marks))

-- if two neighbours are the same revision, the calls are two
pub thrice-first : (s : Strategy) (kind : ℕ → Option MarkKind) (a b c at : ℕ) (marks : List RevisionMark) → a ≡ b → thrice s kind a b c at marks ≡ marked s (kind a) a at (marked s (kind c) c at marks)
thrice-first s kind a b c at marks is = rw (← is) (marked-twice s (kind a) a at (marked s (kind c) c at marks))

pub thrice-last : (s : Strategy) (kind : ℕ → Option MarkKind) (a b c at : ℕ) (marks : List RevisionMark) → b ≡ c → thrice s kind a b c at marks ≡ marked s (kind a) a at (marked s (kind c) c at marks)
thrice-last s kind a b c at marks is = rw is (ap (marked s (kind a) a at) (marked-twice s (kind c) c at marks))

-- kinds that agree make the same calls
pub thrice-kinds : (s : Strategy) (p t : ℕ → Option MarkKind) (a b c at : ℕ) (marks : List RevisionMark) → ((q : ℕ) → p q ≡ t q) → thrice s p a b c at marks ≡ thrice s t a b c at marks
thrice-kinds s p t a b c at marks same = rw (same a, same b, same c) refl
