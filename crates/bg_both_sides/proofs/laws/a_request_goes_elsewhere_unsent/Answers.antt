use Rattle.bg_both_sides.proofs.ElsewhereLemmas.{goes_elsewhere_unsent}
use Rattle.bg_both_sides.proofs.laws.a_request_goes_elsewhere_unsent.Goals as goal

pub returns : goal.returns
returns c settings now calls old request dialing route at new =
    goes_elsewhere_unsent settings now calls old request dialing route at new
