-- The answers to the lines of a control connection.
use Rattle.std.specs.Prelude.{ℕ, Bool, List, Option, ⊤}
use Rattle.bg_script.specs.declared.answering.LinesEnd.{LinesEnd}
use Rattle.bg_script.specs.declared.answering.LinesEnd.TheVariants as lines_end
use Rattle.bg_script.specs.LineAnswers.{AnswersLines}
use Rattle.bg_script.specs.LineSteps.{Stage, ConnectionClosed, ConnectionOpen}

-- from first to last the lines of xs were answered while no book is open, up to this end; ys are unread
abbrev pub AnswersBeforeOpen : LinesEnd → Option (List ℕ) → Option (List ℕ) → List ℕ → List ℕ → Type 0
AnswersBeforeOpen end first last xs ys = (faulted : Bool)
    × AnswersLines ConnectionClosed end faulted first last ConnectionClosed xs ys

-- the lines at a desk may end so: not in an `open`, since a book is open
abbrev pub MayEndAtDesk : LinesEnd → Type 0
MayEndAtDesk (lines_end.Open revision) = ⊥
MayEndAtDesk lines_end.Quit = ⊤
MayEndAtDesk lines_end.SpeaksHttp = ⊤
MayEndAtDesk lines_end.End = ⊤

-- from first to last the lines of xs were answered by the book of a desk, with a boot clock that may read so, up to this
-- end; ys are unread
abbrev pub AnswersAtDesk : (ℕ → Bool) → LinesEnd → Option (List ℕ) → Option (List ℕ) → List ℕ
    → List ℕ → Type 0
AnswersAtDesk reads end first last xs ys = (faulted : Bool)
    × AnswersLines (ConnectionOpen reads) end faulted first last (ConnectionOpen reads) xs ys

-- from first to last the lines of xs were answered from this stage of a desk with a journal on, up to this end; then ys are
-- unread, and this is the stage
abbrev pub AnswersAtJournaledDesk : Stage → LinesEnd → Option (List ℕ) → Option (List ℕ) → Stage → List ℕ
    → List ℕ → Type 0
AnswersAtJournaledDesk stage end first last next xs ys =
    (faulted : Bool) × AnswersLines stage end faulted first last next xs ys
