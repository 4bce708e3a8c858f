use Rattle.bg_history.specs.declared.entry.Entry.TheVariants.{Retry}
use Rattle.bg_history.specs.AttemptBounds.{newest_of}
use Rattle.bg_audit.proofs.Listed.{raised-listed}
use Rattle.bg_audit.proofs.revisions.take.Goals as goal

pub returns-in-Retry : goal.returns-in-Retry
returns-in-Retry c = λ o past state reach.
    rw c.in-Retry.is (λ allowed is.
    raised-listed c.args.strategy.now o past Retry (newest_of past) c.args.strategy.now.preview_replicas _ _
    (c.resizes.ensures.retry c.args.strategy.now o past) (c.finds.ensures.number c.args.strategy.now o past (newest_of past))
    reach.newest is (rw (← state.newest_is) c.raise.ensures))
