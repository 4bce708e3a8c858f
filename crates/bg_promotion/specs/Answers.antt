-- The answer to each command.
use Rattle.std.specs.Prelude.{Bool, true, false, if◌then◌else◌, not, List, Result, Ok, Err}
use Rattle.bg_history.specs.declared.entry.Entry.{Entry}
use Rattle.bg_history.specs.declared.entry.Analysis.{Analysis}
use Rattle.bg_history.specs.declared.entry.Outcome.{Outcome}
use Rattle.bg_history.specs.declared.entry.Outcome.TheVariants.{Ready, Resumed, Switched, Promoted, ScaledDown, Removed}
use Rattle.bg_strategy.specs.declared.strategy.Strategy.{Strategy}
use Rattle.bg_history.specs.AttemptBounds.{is_running, is_halted}
use Rattle.bg_history.specs.Attempts.{has_promote_full}
use Rattle.bg_history.specs.Phases.{is_paused}
use Rattle.bg_history.specs.Allowed.{awaits}
use Rattle.bg_promotion.specs.declared.faults.AbortFault as abort
use Rattle.bg_promotion.specs.declared.faults.AbortFault.TheVariants as abort_fault
use Rattle.bg_promotion.specs.declared.faults.RetryFault as retry
use Rattle.bg_promotion.specs.declared.faults.RetryFault.TheVariants as retry_fault
use Rattle.bg_promotion.specs.declared.faults.PromoteFault as promote
use Rattle.bg_promotion.specs.declared.faults.PromoteFault.TheVariants as promote_fault
use Rattle.bg_promotion.specs.declared.faults.PromoteFullFault as full
use Rattle.bg_promotion.specs.declared.faults.PromoteFullFault.TheVariants as full_fault
use Rattle.bg_promotion.specs.declared.faults.VerdictFault as verdict
use Rattle.bg_promotion.specs.declared.faults.VerdictFault.TheVariants as verdict_fault

-- an abort is refused if the last attempt was halted, or if none runs
abbrev pub abort_answer : List Entry → Result (Unit {0}) abort.AbortFault
abort_answer past =
    if is_halted past then Err abort_fault.AlreadyAborted
    else if is_running past then Ok tt
    else Err abort_fault.NothingToAbort

-- a retry is refused if the last attempt wasn't halted
abbrev pub retry_answer : List Entry → Result (Unit {0}) retry.RetryFault
retry_answer past = if is_halted past then Ok tt else Err retry_fault.NotAborted

-- a promotion is accepted only in a pause; else the fault says whether the last attempt was halted
abbrev pub promote_answer : Strategy → List Entry → Result (Unit {0}) promote.PromoteFault
promote_answer s past =
    if is_paused s past then Ok tt
    else if is_halted past then Err promote_fault.Aborted
    else Err promote_fault.NotPaused

-- a full promotion is refused if the last attempt was halted, if none runs, or if this attempt already has one
abbrev pub promote_full_answer : List Entry → Result (Unit {0}) full.PromoteFullFault
promote_full_answer past =
    if is_halted past then Err full_fault.Aborted
    else if not (is_running past) then Err full_fault.NothingToPromote
    else if has_promote_full past then Err full_fault.AlreadyFull
    else Ok tt

-- a verdict is refused if the rollout doesn't wait for its analysis
abbrev pub verdict_answer : Analysis → Strategy → List Entry
    → Result (Unit {0}) verdict.VerdictFault
verdict_answer analysis s past =
    if awaits analysis s past then Ok tt
    else Err verdict_fault.NoAnalysis

-- the outcome is a step of an attempt
abbrev pub is_step : Outcome → Bool
is_step (Ready r) = true
is_step (Resumed r) = true
is_step (Switched r) = true
is_step (Promoted r) = true
is_step (ScaledDown r) = false
is_step (Removed r) = false
