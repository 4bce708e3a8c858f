use Rattle.bg_event_loop.proofs.SeatLemmas.{all_used_twice}
use Rattle.bg_event_loop.proofs.running.serve_due.Goals as goal

pub loop-preserved : goal.loop-preserved
loop-preserved g c =
    all_used_twice _ _ _ c.loop.invariant (all_used_twice _ _ _ c.is_cut-is_given_up.ensures.used c.leave_at.ensures)
