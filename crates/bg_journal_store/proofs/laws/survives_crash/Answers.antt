use Rattle.bg_journal_store.proofs.Reopened.{survives}
use Rattle.bg_journal_store.proofs.laws.survives_crash.Goals as goal

pub returns : goal.returns
returns g c = survives g.met.D.Disk.seen_may_stay c.args.journal.now c.obeys_schema.ensures
