-- The faults of an attempt as faults of an event.
use Rattle.bg_promotion.specs.declared.faults.AbortFault as abort
use Rattle.bg_promotion.specs.declared.faults.AbortFault.TheVariants as abort_fault
use Rattle.bg_promotion.specs.declared.faults.RetryFault as retry
use Rattle.bg_promotion.specs.declared.faults.RetryFault.TheVariants as retry_fault
use Rattle.bg_promotion.specs.declared.faults.PromoteFault as promote
use Rattle.bg_promotion.specs.declared.faults.PromoteFault.TheVariants as promote_fault
use Rattle.bg_promotion.specs.declared.faults.PromoteFullFault as full
use Rattle.bg_promotion.specs.declared.faults.PromoteFullFault.TheVariants as full_fault
use Rattle.bg_promotion.specs.declared.faults.VerdictFault as verdict
use Rattle.bg_promotion.specs.declared.faults.VerdictFault.TheVariants as verdict_fault
use Rattle.bg_rollout.specs.declared.control_fault.ControlFault.{ControlFault}
use Rattle.bg_rollout.specs.declared.control_fault.ControlFault.TheVariants as fault

abbrev pub of_verdict : verdict.VerdictFault → ControlFault
of_verdict verdict_fault.NoAnalysis = fault.NoAnalysis

abbrev pub of_promote : promote.PromoteFault → ControlFault
of_promote promote_fault.Aborted = fault.Aborted
of_promote promote_fault.NotPaused = fault.NotPaused

abbrev pub of_promote_full : full.PromoteFullFault → ControlFault
of_promote_full full_fault.Aborted = fault.Aborted
of_promote_full full_fault.NothingToPromote = fault.NothingToPromote
of_promote_full full_fault.AlreadyFull = fault.AlreadyFull

abbrev pub of_abort : abort.AbortFault → ControlFault
of_abort abort_fault.AlreadyAborted = fault.AlreadyAborted
of_abort abort_fault.NothingToAbort = fault.NothingToAbort

abbrev pub of_retry : retry.RetryFault → ControlFault
of_retry retry_fault.NotAborted = fault.NotAborted
