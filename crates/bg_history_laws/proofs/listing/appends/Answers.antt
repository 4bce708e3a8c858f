use Rattle.bg_history_laws.proofs.Listed.Changed.{listed-new}
use Rattle.bg_history_laws.proofs.listing.appends.Goals as goal

pub returns : goal.returns
returns c = listed-new
