use Rattle.std.proofs.lemmas.List.Edits.{map_over_more}
use Rattle.bg_event_loop.proofs.SeatLemmas.{map-whole}
use Rattle.bg_event_loop.specs.Seats.{emptied}
use Rattle.bg_event_loop.proofs.seating.leave_all.Goals as goal

pub loop-seat-preserved : goal.loop-seat-preserved
loop-seat-preserved g c =
    rw (c.empty.ensures, ← c.seat-item.is)
    (map_over_more emptied _ _ c.loop-seat.seat-index c.seat-item.result c.loop-seat-test.true c.loop-seat.invariant c.seat-item.is)

pub returns : goal.returns
returns g c = map-whole _ _ _ c.loop-seat.invariant c.loop-seat-test.false
