-- The output of a replay.
use Rattle.std.specs.Prelude.{◌≡◌, ℕ, Bool, List, [], ◌∷◌, ⊤, Option, Ok, if◌then◌else◌}
use Rattle.std.specs.Io.KnownBytes.{Appends}
use Rattle.bg_operator.specs.declared.command.Command.TheVariants.{Quit}
use Rattle.bg_operator.specs.Commands.{line_reading}
use Rattle.bg_operator.specs.Lines.{lines_of}
use Rattle.bg_operator.specs.Parting.{part_of, rest_of}
use Rattle.bg_script.specs.declared.finding.Finding.{Finding}
use Rattle.bg_script.specs.declared.finding.Finding.TheVariants.{Means}
use Rattle.bg_script.specs.declared.answer.Answer.TheVariants.{Opened}
use Rattle.bg_script.specs.AnswerTexts.{answer_text}
use Rattle.bg_script.specs.Findings.{finding_text, IsFinding, status_of}
use Rattle.bg_script.specs.LineAnswers.{Answered, has_fault, text_of_all}
use Rattle.bg_script.specs.LineSteps.{Stage, Closed, Written}

-- a script ends at `quit`, or after its last line
abbrev pub IsOver : List (List ℕ) → Type 0
IsOver [] = ⊤
IsOver (line ∷ lines) = line_reading line ≡ Ok Quit

-- from first to last the lines of the bytes were answered from this stage on, up to `quit` or to the end
pub record Ran (start : Stage) (first last : Option (List ℕ)) (faulted : Bool) (bytes : List ℕ)
    : Type 0 where
  pub all : List Written
  pub rest : List (List ℕ)
  pub end : Stage
  pub answers : Answered start (lines_of bytes) rest all end
  pub is_over : IsOver rest
  pub appended : Appends first last (text_of_all all)
  pub fault_is : faulted ≡ has_fault all

-- from first to last it was written that a book is open, and then the lines of the bytes were
-- answered from this stage on
pub record RanOpened (start : Stage) (first last : Option (List ℕ)) (faulted : Bool)
    (bytes : List ℕ) : Type 0 where
  pub begun : Option (List ℕ)
  pub said : Appends first begun (answer_text Opened)
  pub ran : Ran start begun last faulted bytes

-- from first to last the fault of the strategy was written, and this is the exit status
abbrev pub Refuses : Finding → Option (List ℕ) → Option (List ℕ) → ℕ → Type 0
Refuses finding first last status =
    Appends first last (finding_text finding) × (status ≡ status_of finding)

-- from first to last the output after this finding was written: the fault of the strategy, or the
-- answers to the script
abbrev pub RanBy : Finding → ℕ → Option (List ℕ) → Option (List ℕ) → ℕ → List ℕ → Type 0
RanBy (Means strategy) seats first last status bytes =
    (faulted : Bool) × Ran (Closed strategy seats) first last faulted (rest_of bytes)
    × (status ≡ (if faulted then 1 else 0))
RanBy finding seats first last status bytes = Refuses finding first last status

-- the output of a whole replay of the bytes with this many seats, and its exit status
pub record Replays (seats : ℕ) (first last : Option (List ℕ)) (status : ℕ) (bytes : List ℕ)
    : Type 0 where
  pub finding : Finding
  pub found : IsFinding finding (part_of bytes)
  pub run : RanBy finding seats first last status bytes
