use Rattle.bg_history_laws.proofs.Listed.Changed.{listed-same}
use Rattle.bg_history_laws.proofs.listing.keeps.Goals as goal

pub returns : goal.returns
returns c = listed-same
