use Rattle.bg_event_loop.proofs.SeatLemmas.{all_used_twice}
use Rattle.bg_event_loop.proofs.running.serve_round.Goals as goal

pub returns : goal.returns
returns g c = all_used_twice _ _ _ c.serve_due.ensures c.admit_and_serve.ensures
