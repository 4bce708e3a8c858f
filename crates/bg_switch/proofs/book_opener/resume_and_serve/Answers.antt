use Rattle.bg_switch.proofs.SeatsKept.{new_are_out}
use Rattle.bg_switch.proofs.book_opener.resume_and_serve.Goals as goal

pub serve_resumed-requires-clause-out : goal.serve_resumed-requires-clause-out
serve_resumed-requires-clause-out g c κs within = new_are_out c.args.context.now.seats _ c.in_ok-opened.ensures.seats
