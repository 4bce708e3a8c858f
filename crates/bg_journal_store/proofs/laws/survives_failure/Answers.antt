use Rattle.bg_journal_store.proofs.Reopened.{survives_failure}
use Rattle.bg_journal_store.proofs.laws.survives_failure.Goals as goal

pub returns : goal.returns
returns g c = survives_failure g.met.D.Disk.seen_may_stay c.args.journal.now
