use Rattle.bg_streams.specs.Laws.{BeginsAnswer, GivesAnswer, GivesNoBody, KeepsLimit}
use Rattle.bg_streams.proofs.StreamLemmas.{on_streams}
use Rattle.bg_streams.proofs.stream_laws.a_client_takes_the_head_and_the_body.Goals as goal

pub returns-clause-front : goal.returns-clause-front
returns-clause-front c = on_streams BeginsAnswer c.a_client_gets_the_head_and_a_front_of_the_body.ensures

pub returns-clause-whole : goal.returns-clause-whole
returns-clause-whole c = on_streams GivesAnswer c.a_client_gets_the_whole_body.ensures

pub returns-clause-cut : goal.returns-clause-cut
returns-clause-cut c = on_streams GivesNoBody c.a_cut_response_has_no_end.ensures

pub returns-clause-limit : goal.returns-clause-limit
returns-clause-limit c = on_streams KeepsLimit c.a_body_is_taken_within_its_limit.ensures
