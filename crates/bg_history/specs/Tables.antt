-- The table of the deadlines, and the one that a past makes, for a book that keeps the deadlines in addition to its past.
use Rattle.std.specs.Prelude.{ℕ, Bool, true, false, not, if◌then◌else◌, ◌+◌, ◌==◌, List, [], ◌∷◌, length, Option, Some, None, is_some, filter, find, IsTrue}
use Rattle.bg_history.specs.declared.entry.Entry.{Entry}
use Rattle.bg_history.specs.declared.entry.Entry.TheVariants.{Deploy, Retry, Outcome}
use Rattle.bg_history.specs.declared.entry.Outcome.TheVariants.{Switched, ScaledDown}
use Rattle.bg_history.specs.AttemptBounds.{moment, stable_of, newest_of, is_halt}
use Rattle.bg_history.specs.Selections.{active_of}
use Rattle.bg_history.specs.Sizes.{is_scaled}
use Rattle.bg_history.specs.Deadlines.{deadline, exists_in}
use Rattle.bg_history.specs.Marks.{MarkKind, Left, Superseded, Aborted, Cleared, kind_of}
use Rattle.bg_strategy.specs.declared.strategy.Strategy.{Strategy}
use Rattle.bg_history.specs.declared.mark.RevisionMark.{RevisionMark}
use Rattle.bg_history.specs.declared.mark.Cause.{Cause}
use Rattle.bg_history.specs.declared.mark.Cause.TheVariants as cause

-- the deadlines as contracts see them: the newest mark of each revision, newest first, with the two delays and the limit
pub record Table : Type 0 where
  pub delay : ℕ
  pub abort_delay : ℕ
  pub limit : Option ℕ
  pub marks : List RevisionMark

-- the revision left the active service
abbrev pub has_left : Cause → Bool
has_left cause.Left = true
has_left cause.Superseded = false
has_left cause.Aborted = false

-- a mark, and the number of entries before the one that made it; this number orders the marks
pub record Stamp : Type 0 where
  pub mark : RevisionMark
  pub position : ℕ

-- the stamp with these parts
abbrev pub stamp_at : ℕ → Cause → ℕ → ℕ → Stamp
stamp_at r c deadline position = record {
  mark = record {
    revision = r;
    cause = c;
    deadline = deadline;
  };
  position = position;
}

-- the stamps of other revisions
abbrev pub others : ℕ → List Stamp → List Stamp
others r stamps = filter (λ stamp. not (stamp.mark.revision == r)) stamps

-- the stamp of the revision
abbrev pub stamp_of : ℕ → List Stamp → Option Stamp
stamp_of r stamps = find (λ stamp. stamp.mark.revision == r) stamps

-- the stamps after an entry that is a mark of that kind for q
abbrev pub stamped : Strategy → Option MarkKind → ℕ → ℕ → ℕ → List Stamp → List Stamp
stamped s None q at position stamps = stamps
stamped s (Some Left) q at position stamps = stamp_at q cause.Left (at + s.delay) position ∷ others q stamps
stamped s (Some Superseded) q at position stamps = stamp_at q cause.Superseded at position ∷ others q stamps
stamped s (Some Aborted) q at position stamps =
    stamp_at q cause.Aborted (at + s.abort_delay) position ∷ others q stamps
stamped s (Some Cleared) q at position stamps = others q stamps

-- the revisions that an entry may mark
abbrev pub touched : Entry → List Entry → List ℕ
touched (Deploy r name ports) before = active_of before ∷ newest_of before ∷ r ∷ []
touched Retry before = newest_of before ∷ []
touched (Outcome (Switched r)) before = active_of before ∷ r ∷ []
touched (Outcome (ScaledDown r)) before = r ∷ []
touched e before =
    if is_halt e then active_of before ∷ newest_of before ∷ stable_of before ∷ [] else []

-- the stamps after an entry, with its effect on these revisions
abbrev pub stamp_all : Strategy → Entry → List Entry → List ℕ → List Stamp → List Stamp
stamp_all s e before [] stamps = stamps
stamp_all s e before (q ∷ qs) stamps =
    stamped s (kind_of s q e before) q (moment (e ∷ before)) (length before)
    (stamp_all s e before qs stamps)

-- the stamps that the entries made and no later entry replaced or cleared, newest first
abbrev pub stamps_of : Strategy → List Entry → List Stamp
stamps_of s [] = []
stamps_of s (e ∷ before) = stamp_all s e before (touched e before) (stamps_of s before)

-- the marks of the stamps
abbrev pub marks_of : List Stamp → List RevisionMark
marks_of [] = []
marks_of (stamp ∷ stamps) = stamp.mark ∷ marks_of stamps

-- the table of the deadlines after a past
abbrev pub table_of : Strategy → List Entry → Table
table_of s past = record {
  delay = s.delay;
  abort_delay = s.abort_delay;
  limit = s.revision_limit;
  marks = marks_of (stamps_of s past);
}

-- holds of every past that a book can reach: a revision with a deadline exists and is scaled
pub record DeadlinesInvariant (s : Strategy) (past : List Entry) : Type 0 where
  pub exist : (r : ℕ) → IsTrue (is_some (deadline s r past)) → IsTrue (exists_in r past)
  pub scaled : (r : ℕ) → IsTrue (is_some (deadline s r past)) → IsTrue (is_scaled s r past)
