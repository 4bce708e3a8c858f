use Rattle.bg_streams.proofs.LawLemmas.{is_drained_answer}
use Rattle.bg_streams.proofs.laws.a_drained_connection_carried_the_response.Goals as goal

pub returns : goal.returns
returns c = is_drained_answer c.a_whole_body_is_passed_on.ensures c.a_limit_refuses_only_a_longer_body.ensures
