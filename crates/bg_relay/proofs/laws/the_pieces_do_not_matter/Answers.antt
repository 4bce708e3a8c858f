use Rattle.bg_relay.proofs.LawLemmas.{passes_alike}
use Rattle.bg_relay.proofs.laws.the_pieces_do_not_matter.Goals as goal

pub returns : goal.returns
returns c = passes_alike
