use Rattle.bg_relay.proofs.LawLemmas.{passes_whole}
use Rattle.bg_relay.proofs.laws.a_whole_body_is_passed_on.Goals as goal

pub returns : goal.returns
returns c = passes_whole
