use Rattle.bg_order_journal.specs.Ties.{doubt_in}
use Rattle.bg_order_journal.proofs.Remembered.{settled}
use Rattle.bg_order_journal.proofs.stored_orders.repair.Goals as goal

pub returns-clause-tied : goal.returns-clause-tied
returns-clause-tied g c =
    settled g.S.Store c.append_again-opened.result.0 c.reserve.new.self.items c.settle.new.rows.items c.in-Some.text (doubt_in c.settle.new.doubt) c.append_again-opened.result.1
    (rw (c.deref.ensures.value, c.as_str.ensures.value) at c.append_again-opened.ensures) c.settle.ensures.kept c.settle.ensures.settled c.settle.ensures.behind c.settle.ensures.in_doubt
