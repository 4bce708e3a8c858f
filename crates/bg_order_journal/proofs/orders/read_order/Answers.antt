use Rattle.bg_order_journal.proofs.ReadOrders.{order_read}
use Rattle.bg_order_journal.proofs.orders.read_order.Goals as goal

pub returns-in_ok-append_entries-in-Ok-clause-read : goal.returns-in_ok-append_entries-in-Ok-clause-read
returns-in_ok-append_entries-in-Ok-clause-read c =
    λ texts read. order_read texts c.args.text.now c.args.entries.now.items c.in-Ok.later.items c.append_entries.new.entries.items c.requires read
    c.in-Ok.ensures.text c.in-Ok.ensures.journaled (c.in_ok-append_entries-in-Ok.ensures _ read.entries_are)
