use Rattle.std.proofs.Common.{refl}
use Rattle.bg_upgrade.proofs.TextLemmas.{front_of_upgrade, request_front}
use Rattle.bg_upgrade.proofs.laws.an_upgrade_differs_at_its_end.Goals as goal

pub returns : goal.returns
returns c = λ request port asks. (request_front request, front_of_upgrade request port asks, refl)
