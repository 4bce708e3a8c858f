use Rattle.bg_history_laws.proofs.Listed.Changed.{listed-available}
use Rattle.bg_history_laws.proofs.listing.reports.Goals as goal

pub returns : goal.returns
returns c = listed-available
