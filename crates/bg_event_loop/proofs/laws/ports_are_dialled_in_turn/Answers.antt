use Rattle.bg_event_loop.proofs.TurnLemmas.{in_turn}
use Rattle.bg_event_loop.proofs.laws.ports_are_dialled_in_turn.Goals as goal

pub returns : goal.returns
returns g c ticket first others last = in_turn _ first others last
