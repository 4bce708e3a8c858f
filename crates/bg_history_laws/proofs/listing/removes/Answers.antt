use Rattle.bg_history_laws.proofs.Listed.Changed.{listed-removed}
use Rattle.bg_history_laws.proofs.listing.removes.Goals as goal

pub returns : goal.returns
returns c = listed-removed
