use Rattle.bg_journal.proofs.SupersededTicks.{keeps}
use Rattle.bg_journal.proofs.laws.ticks_may_be_dropped.Goals as goal

pub returns : goal.returns
returns c s o closed past legal none = keeps s o closed past none (c.compacts.ensures s o closed past legal) (c.keeps_table.ensures s o past)
