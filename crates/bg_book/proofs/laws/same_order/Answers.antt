use Rattle.bg_book.proofs.SeatOrder.{same_indices}
use Rattle.bg_book.proofs.Running.{same_order}
use Rattle.bg_book.proofs.laws.same_order.Goals as goal

pub returns-clause-each : goal.returns-clause-each
returns-clause-each c old new count each = same_indices old new count each

pub returns-clause-one : goal.returns-clause-one
returns-clause-one c seats place d new within same = same_order seats place d new within same
