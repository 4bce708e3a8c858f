-- The answers to the lines of a script or of a control connection, one after the other.
use Rattle.std.specs.Prelude.{◌≡◌, ℕ, Bool, true, false, ◌||◌, ◌&&◌, List, [], ◌∷◌, ⊤, Option, Result, Ok, Err}
use Rattle.std.specs.List.{flat_map}
use Rattle.std.specs.Io.KnownBytes.{Appends}
use Rattle.bg_operator.specs.declared.command.Command.{Command}
use Rattle.bg_operator.specs.declared.command.Command.TheVariants as command
use Rattle.bg_operator.specs.declared.line_fault.LineFault.{LineFault}
use Rattle.bg_operator.specs.declared.query.Query.{Query}
use Rattle.bg_operator.specs.Commands.{IsReadAs, line_reading}
use Rattle.bg_operator.specs.HttpLines.{is_http_line, speaks_http}
use Rattle.bg_operator.specs.Lines.{lines_of}
use Rattle.bg_script.specs.declared.answer.Answer.TheVariants as answer
use Rattle.bg_script.specs.declared.answering.AfterLine.{AfterLine}
use Rattle.bg_script.specs.declared.answering.AfterLine.TheVariants as after_line
use Rattle.bg_script.specs.declared.answering.LinesEnd.{LinesEnd}
use Rattle.bg_script.specs.declared.answering.LinesEnd.TheVariants as lines_end
use Rattle.bg_script.specs.declared.answering.LineResult.{LineResult}
use Rattle.bg_script.specs.declared.answering.LineResult.TheVariants as line_result
use Rattle.bg_script.specs.AnswerTexts.{answer_text}
use Rattle.bg_script.specs.LineSteps.{Stage, Written, Said, ReadStep, is_connection, is_fault_written, is_open, written_text}

-- a line with this result is not answered, since it ends the answering
abbrev pub EndsLines : Stage → Result Command LineFault → LinesEnd → Type 0
EndsLines stage read (lines_end.Open revision) =
    (read ≡ Ok (command.Open revision.name revision.ports)) × (is_open stage ≡ false)
EndsLines stage read lines_end.Quit = read ≡ Ok command.Quit
EndsLines stage read lines_end.SpeaksHttp = ⊥
EndsLines stage read lines_end.End = ⊥

-- from first to last the answer to a line with this result was written
pub record WroteAnswer (stage : Stage) (read : Result Command LineFault)
    (first last : Option (List ℕ)) (next : Stage) (is_fault : Bool) : Type 0 where
  pub written : Written
  pub step : ReadStep stage read written next
  pub appended : Appends first last (written_text written)
  pub fault_is : is_fault ≡ is_fault_written written

-- What a line with this result leads to, and the stage then. From first to last, the answer to its query was written if it
-- asks a book for something; nothing else was written.
abbrev pub StepIs : Stage → Result Command LineFault → Option (List ℕ) → Option (List ℕ) → Stage
    → LineResult → Type 0
StepIs stage read first last next (line_result.Said said) =
    ReadStep stage read (Said said) next × (last ≡ first)
StepIs stage read first last next line_result.Report =
    ((query : Query) × (read ≡ Ok (command.Ask query))) × WroteAnswer stage read first last next false
StepIs stage read first last next (line_result.Opens revision) =
    EndsLines stage read (lines_end.Open revision) × (next ≡ stage) × (last ≡ first)
StepIs stage read first last next line_result.Quits =
    EndsLines stage read lines_end.Quit × (next ≡ stage) × (last ≡ first)

-- the same, but if the line has an answer, its text was written
abbrev pub LineIsAnswered : Stage → Result Command LineFault → Option (List ℕ) → Option (List ℕ)
    → Stage → LineResult → Type 0
LineIsAnswered stage read first last next (line_result.Said said) =
    ReadStep stage read (Said said) next × Appends first last (answer_text said)
LineIsAnswered stage read first last next line_result.Report =
    StepIs stage read first last next line_result.Report
LineIsAnswered stage read first last next (line_result.Opens revision) =
    StepIs stage read first last next (line_result.Opens revision)
LineIsAnswered stage read first last next line_result.Quits =
    StepIs stage read first last next line_result.Quits

-- from first to last a line with this result was answered, by whether a fault was written; or it ends the answering, and
-- nothing was written
abbrev pub LineIsDone : Stage → Result Command LineFault → Option (List ℕ) → Option (List ℕ)
    → Stage → AfterLine → Type 0
LineIsDone stage read first last next (after_line.GoesOn is_fault) =
    WroteAnswer stage read first last next is_fault
LineIsDone stage read first last next (after_line.Ends end) =
    EndsLines stage read end × (next ≡ stage) × (last ≡ first)

-- whether no line of a control connection is answered after this one: it is a fault and a line of HTTP
abbrev pub ends_connection : Stage → Result Command LineFault → List ℕ → Bool
ends_connection stage read line = is_connection stage && speaks_http read line

-- a possible answer to a line: by its result, or by an allocation failure if the line needs memory
abbrev pub LineStep : Stage → List ℕ → Written → Stage → Type 0
LineStep stage line written next =
    (read : Result Command LineFault) × IsReadAs (line_reading line) read
    × (ends_connection stage read line ≡ false) × ReadStep stage read written next

-- from this stage on, these answers may be given to the lines, one after the other; then the rest is not answered, and
-- this is the stage
abbrev pub Answered : Stage → List (List ℕ) → List (List ℕ) → List Written → Stage → Type 0
Answered stage lines rest [] last = (lines ≡ rest) × (last ≡ stage)
Answered stage [] rest (written ∷ later) last = ⊥
Answered stage (line ∷ lines) rest (written ∷ later) last =
    (next : Stage) × LineStep stage line written next × Answered next lines rest later last

-- all that is written
abbrev pub text_of_all : List Written → List ℕ
text_of_all written = flat_map written_text written

abbrev pub has_fault : List Written → Bool
has_fault [] = false
has_fault (written ∷ later) = is_fault_written written || has_fault later

-- the first line gives this command, and the later ones are unread
abbrev pub FirstIs : Command → List (List ℕ) → List (List ℕ) → Type 0
FirstIs command lines later = (line : List ℕ) × (lines ≡ line ∷ later)
    × IsReadAs (line_reading line) (Ok command)

-- the first line is a fault and a line of HTTP; from first to last its fault was written, and the
-- later lines are unread
pub record EndsByHttp (first last : Option (List ℕ)) (lines later : List (List ℕ)) : Type 0 where
  pub line : List ℕ
  pub fault : LineFault
  pub next : lines ≡ line ∷ later
  pub is_read : IsReadAs (line_reading line) (Err fault)
  pub is_http : is_http_line line ≡ true
  pub answered : Appends first last (answer_text (answer.Unread fault))

-- why no more lines are answered, and which lines are unread then; from first to last only the fault of a line of HTTP
-- was written, if there is one
abbrev pub EndsBy : LinesEnd → Option (List ℕ) → Option (List ℕ) → List (List ℕ) → List (List ℕ)
    → Type 0
EndsBy (lines_end.Open revision) first last rest later =
    FirstIs (command.Open revision.name revision.ports) rest later × (last ≡ first)
EndsBy lines_end.Quit first last rest later = FirstIs command.Quit rest later × (last ≡ first)
EndsBy lines_end.SpeaksHttp first last rest later = EndsByHttp first last rest later
EndsBy lines_end.End first last rest later = (rest ≡ []) × (last ≡ first)

-- whether a fault was written
abbrev pub FaultIs : LinesEnd → Bool → List Written → Type 0
FaultIs lines_end.SpeaksHttp faulted all = faulted ≡ true
FaultIs (lines_end.Open revision) faulted all = faulted ≡ has_fault all
FaultIs lines_end.Quit faulted all = faulted ≡ has_fault all
FaultIs lines_end.End faulted all = faulted ≡ has_fault all

-- From this stage on, the lines of xs were answered from first to last, up to this end; then ys are unread, and this is
-- the stage.
pub record AnswersLines (stage : Stage) (end : LinesEnd) (faulted : Bool)
    (first last : Option (List ℕ)) (next : Stage) (xs ys : List ℕ) : Type 0 where
  pub rest : List (List ℕ)
  pub answered : Option (List ℕ)
  pub all : List Written
  pub answers : Answered stage (lines_of xs) rest all next
  pub appended : Appends first answered (text_of_all all)
  pub fault_is : FaultIs end faulted all
  pub ends : EndsBy end answered last rest (lines_of ys)

-- the lines may end so at this stage
abbrev pub MayEnd : LinesEnd → Stage → Type 0
MayEnd (lines_end.Open revision) stage = is_open stage ≡ false
MayEnd lines_end.SpeaksHttp stage = is_connection stage ≡ true
MayEnd lines_end.Quit stage = ⊤
MayEnd lines_end.End stage = ⊤
