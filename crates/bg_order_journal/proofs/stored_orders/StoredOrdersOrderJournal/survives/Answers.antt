use Rattle.std.proofs.Common.{◌≤◌, ℕ, map, string_bytes, subst, sym}
use Rattle.std.proofs.lemmas.List.{length-map}
use Rattle.bg_order_journal.specs.Ties.{doubt_in}
use Rattle.bg_order_journal.proofs.Remembered.{survives}
use Rattle.bg_order_journal.proofs.stored_orders.StoredOrdersOrderJournal.survives.Goals as goal

pub returns : goal.returns
returns g c =
    let rows = c.self.inside.rows.items in
    rw (← c.self.view_is) (λ found may. survives g.S.Store c.self.inside.journal (map string_bytes rows) (doubt_in c.self.inside.doubt) found
    (subst (λ (n : ℕ). 1 ≤ n) (sym (length-map rows string_bytes)) c.self.invariant.0) c.self.invariant.1 may)
