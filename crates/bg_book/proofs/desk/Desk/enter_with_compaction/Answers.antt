use Rattle.bg_book.proofs.SeatAlone.{answered}
use Rattle.bg_book.proofs.desk.Desk.enter_with_compaction.Goals as goal

pub returns-clause-seat : goal.returns-clause-seat
returns-clause-seat g c = (answered _ c.enter_or_compact.new.book c.args.seat.now c.enter_or_compact.new.seat c.args.service c.enter_or_compact.result c.enter_or_compact.ensures.told).entered

pub returns-clause-number : goal.returns-clause-number
returns-clause-number g c = (answered _ c.enter_or_compact.new.book c.args.seat.now c.enter_or_compact.new.seat c.args.service c.enter_or_compact.result c.enter_or_compact.ensures.told).number

pub returns-clause-seat_unchanged : goal.returns-clause-seat_unchanged
returns-clause-seat_unchanged g c = (answered _ c.enter_or_compact.new.book c.args.seat.now c.enter_or_compact.new.seat c.args.service c.enter_or_compact.result c.enter_or_compact.ensures.told).unchanged
