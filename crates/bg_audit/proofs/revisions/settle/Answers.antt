use Rattle.bg_history.specs.declared.entry.Entry.TheVariants.{Outcome}
use Rattle.bg_history.specs.declared.entry.Outcome.TheVariants.{Resumed}
use Rattle.bg_audit.proofs.Listed.{raised-listed, resumed-there}
use Rattle.bg_audit.proofs.revisions.settle.Goals as goal

pub returns-in-Resumed : goal.returns-in-Resumed
returns-in-Resumed c = λ o past reach.
    rw c.in-Resumed.is (λ allowed is.
    raised-listed c.args.strategy.now o past (Outcome (Resumed c.in-Resumed.number)) c.in-Resumed.number c.args.strategy.now.replicas _ _
    (c.resizes.ensures.resumed c.args.strategy.now o past c.in-Resumed.number) (c.finds.ensures.number c.args.strategy.now o past c.in-Resumed.number)
    (resumed-there c.args.strategy.now o c.in-Resumed.number past reach allowed) is c.raise.ensures)
