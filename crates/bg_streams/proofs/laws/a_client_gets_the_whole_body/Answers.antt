use Rattle.bg_streams.proofs.LawLemmas.{gives_answer}
use Rattle.bg_streams.proofs.laws.a_client_gets_the_whole_body.Goals as goal

pub returns : goal.returns
returns c = gives_answer c.a_whole_body_is_passed_on.ensures
