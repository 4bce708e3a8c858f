use Rattle.bg_client_side.proofs.SeatRunLemmas.{none_is_lost}
use Rattle.bg_client_side.proofs.seat_laws.no_client_is_lost.Goals as goal

pub returns : goal.returns
returns c key calls old new = none_is_lost key calls old new
