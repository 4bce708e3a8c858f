use Rattle.bg_relay.proofs.LawLemmas.{waits_shortly}
use Rattle.bg_relay.proofs.laws.what_waits_is_short.Goals as goal

pub returns : goal.returns
returns c = waits_shortly
