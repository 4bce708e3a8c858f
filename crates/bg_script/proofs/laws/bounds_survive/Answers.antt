use Rattle.bg_journal.specs.Bounds.{bound_text}
use Rattle.bg_script.proofs.Bounds.{survive}
use Rattle.bg_script.proofs.laws.bounds_survive.Goals as goal

pub returns : goal.returns
returns g c =
    λ before n orders unsure small kept_is doubt_is found is.
    survive c.entries_say_no_bound.ensures before (bound_text n) n orders unsure (g.J.OrderJournal.kept c.args.journal.now) (g.J.OrderJournal.doubt c.args.journal.now) found
    (c.bounds_are_read.ensures n small) kept_is doubt_is (c.survives.ensures found is)
