use Rattle.bg_forward.proofs.Flushed.{flushed}
use Rattle.bg_forward.proofs.forwarding.send_refusal.Goals as goal

pub returns : goal.returns
returns g c =
    flushed c.flush.result _ _ _ _ _ _ c.requires.empty
    c.in_ok-write_refusal_with.ensures c.flush.ensures.bytes c.flush.ensures.empty
