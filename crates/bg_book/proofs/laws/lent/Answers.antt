use Rattle.bg_book.proofs.SeatOrder.{as_left}
use Rattle.bg_book.proofs.laws.lent.Goals as goal

pub returns : goal.returns
returns c len items now new is order count = as_left len items now new is order count
