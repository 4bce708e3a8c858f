use Rattle.std.proofs.Common.{[], refl}
use Rattle.std.specs.Prelude.{codes}
use Rattle.bg_upgrade.proofs.laws.only_an_upgrade_says_upgrade.Goals as goal

pub returns : goal.returns
returns c = λ fields. c.fields_of_one_connection_stay.ensures fields (codes "upgrade", []) refl
