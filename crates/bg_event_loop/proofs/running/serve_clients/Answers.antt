use Rattle.bg_event_loop.proofs.SeatLemmas.{all_used_twice}
use Rattle.bg_event_loop.proofs.running.serve_clients.Goals as goal

pub returns-then-is_over : goal.returns-then-is_over
returns-then-is_over g c = all_used_twice _ _ _ c.loop.invariant c.serve_round.ensures

pub loop-preserved : goal.loop-preserved
loop-preserved g c = all_used_twice _ _ _ c.loop.invariant c.serve_round.ensures
