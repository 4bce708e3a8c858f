use Rattle.bg_upgrade.proofs.LawLemmas.{takes_asked}
use Rattle.bg_upgrade.proofs.laws.an_acceptance_takes_a_protocol_that_was_asked.Goals as goal

pub returns : goal.returns
returns c = λ request bytes head taken found. takes_asked request head found.1.1
