use Rattle.bg_endpoint_side.proofs.LawLemmas.{reads_alike}
use Rattle.bg_endpoint_side.proofs.laws.the_method_decides_how_a_response_is_read.Goals as goal

pub returns : goal.returns
returns c = reads_alike
