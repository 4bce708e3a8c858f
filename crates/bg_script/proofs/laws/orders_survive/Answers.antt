use Rattle.bg_script.proofs.Survival.{survive}
use Rattle.bg_script.proofs.laws.orders_survive.Goals as goal

pub returns : goal.returns
returns g c =
    λ orders unsure are maybe found is entries read old new resumed.
    survive c.texts_differ.ensures orders unsure (g.J.OrderJournal.kept c.args.journal.now) (g.J.OrderJournal.doubt c.args.journal.now) found entries are maybe
    (c.survives.ensures found is) read old new resumed
