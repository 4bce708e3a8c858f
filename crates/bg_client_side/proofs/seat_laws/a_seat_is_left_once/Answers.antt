use Rattle.bg_client_side.proofs.SeatRunLemmas.{seats_leave_once}
use Rattle.bg_client_side.proofs.seat_laws.a_seat_is_left_once.Goals as goal

pub returns : goal.returns
returns c seat calls old new = seats_leave_once seat calls old new
