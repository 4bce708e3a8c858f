use Rattle.bg_both_sides.proofs.EndpointLemmas.{answers_by_its_response}
use Rattle.bg_both_sides.proofs.laws.each_answer_is_that_of_its_request.Goals as goal

pub returns : goal.returns
returns c old new bytes now step reply = answers_by_its_response old new bytes now step reply
