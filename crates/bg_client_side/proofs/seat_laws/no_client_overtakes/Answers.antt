use Rattle.bg_client_side.proofs.SeatRunLemmas.{none_overtakes}
use Rattle.bg_client_side.proofs.seat_laws.no_client_overtakes.Goals as goal

pub returns : goal.returns
returns c calls old new = none_overtakes calls old new
