-- Which lines of operators end an attempt.
use Rattle.std.specs.Prelude.{Bool, true, false, Result, Ok}
use Rattle.bg_history.specs.declared.entry.AnalysisResult.{AnalysisResult}
use Rattle.bg_history.specs.declared.entry.AnalysisResult.TheVariants.{Successful, Failed, Error}
use Rattle.bg_operator.specs.declared.command.Command.{Command}
use Rattle.bg_operator.specs.declared.command.Command.TheVariants.{Before, Control}
use Rattle.bg_operator.specs.declared.line_fault.LineFault.{LineFault}
use Rattle.bg_history.specs.declared.control.Control.{Control as Event}
use Rattle.bg_history.specs.declared.control.Control.TheVariants.{Abort, Verdict}

abbrev pub is_unsuccessful : AnalysisResult → Bool
is_unsuccessful Successful = false
is_unsuccessful Failed = true
is_unsuccessful Error = true

-- an abort, or a failed or erroneous verdict
abbrev pub is_rollback : Event → Bool
is_rollback Abort = true
is_rollback (Verdict analysis verdict) = is_unsuccessful verdict
is_rollback _ = false

-- whether a line ends an attempt, so that services select the stable revision
abbrev pub ends_attempt : Result Command LineFault → Bool
ends_attempt (Ok (Control event)) = is_rollback event
ends_attempt (Ok (Before milliseconds event)) = is_rollback event
ends_attempt _ = false
