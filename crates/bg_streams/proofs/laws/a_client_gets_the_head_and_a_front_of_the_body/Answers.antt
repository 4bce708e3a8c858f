use Rattle.bg_streams.proofs.LawLemmas.{begins_answer}
use Rattle.bg_streams.proofs.laws.a_client_gets_the_head_and_a_front_of_the_body.Goals as goal

pub returns : goal.returns
returns c = begins_answer c.what_was_passed_on_begins_the_body.ensures
