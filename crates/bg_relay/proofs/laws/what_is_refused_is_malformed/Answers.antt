use Rattle.bg_relay.proofs.LawLemmas.{fails_whole}
use Rattle.bg_relay.proofs.laws.what_is_refused_is_malformed.Goals as goal

pub returns : goal.returns
returns c = fails_whole
