use Rattle.bg_client_side.proofs.SeatLemmas.{none_above, one_below}
use Rattle.bg_client_side.proofs.SeatRunLemmas.{seats_stay}
use Rattle.bg_client_side.proofs.seat_laws.seats_are_free_or_taken.Goals as goal

pub returns-clause-first : goal.returns-clause-first
returns-clause-first c = one_below

pub returns-clause-others : goal.returns-clause-others
returns-clause-others c = none_above

pub returns-clause-stay : goal.returns-clause-stay
returns-clause-stay c seat calls old new = seats_stay seat calls old new
