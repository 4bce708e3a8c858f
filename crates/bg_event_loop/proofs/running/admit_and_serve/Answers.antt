use Rattle.bg_event_loop.proofs.SeatLemmas.{all_used_twice}
use Rattle.bg_event_loop.proofs.running.admit_and_serve.Goals as goal

pub returns : goal.returns
returns g c = all_used_twice _ _ _ c.admit.ensures c.serve_due.ensures
