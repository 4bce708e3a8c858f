use Rattle.bg_client_side.proofs.PassingLemmas.{passes_on_alone}
use Rattle.bg_client_side.proofs.laws.a_response_is_passed_on_alone.Goals as goal

pub returns : goal.returns
returns c calls old new = passes_on_alone calls old new
