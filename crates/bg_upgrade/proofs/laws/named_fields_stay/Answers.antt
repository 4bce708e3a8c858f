use Rattle.bg_upgrade.proofs.SentFields.{stays_too}
use Rattle.bg_upgrade.proofs.laws.named_fields_stay.Goals as goal

pub returns : goal.returns
returns c = λ fields name named host other. stays_too fields name (c.named_fields_stay.ensures fields name named host) other
