use Rattle.std.proofs.Common.{map, string_bytes, take}
use Rattle.bg_order_journal.specs.Starts.{AreSaid}
use Rattle.bg_order_journal.proofs.orders.read_orders.Given as goal

abbrev pub invariant-loop-place : goal.invariant-loop-place
invariant-loop-place l = AreSaid (map string_bytes (take l.place l.texts)) l.said.entries.items l.said.numbers l.said.count
