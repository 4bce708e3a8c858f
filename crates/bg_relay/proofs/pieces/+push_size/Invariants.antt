use Rattle.bg_relay.proofs.pieces.+push_size.Given as goal

abbrev pub decreases-push_size : goal.decreases-push_size
decreases-push_size l = l.size
