use Rattle.bg_history_laws.proofs.Listed.Found.{listed-named, listed-template}
use Rattle.bg_history_laws.proofs.listing.names.Goals as goal

pub returns : goal.returns
returns c = record { namesake = listed-named; template = listed-template }
