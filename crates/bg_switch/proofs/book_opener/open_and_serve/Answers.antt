use Rattle.bg_switch.proofs.SeatsKept.{new_are_out}
use Rattle.bg_switch.proofs.book_opener.open_and_serve.Goals as goal

pub begin_and_serve-requires-clause-out : goal.begin_and_serve-requires-clause-out
begin_and_serve-requires-clause-out g c κs within =
    new_are_out c.args.context.now.serve.now.seats _ c.in-Ok.ensures.seats.new
