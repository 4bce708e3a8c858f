use Rattle.bg_streams.proofs.LawLemmas.{keeps_limit}
use Rattle.bg_streams.proofs.laws.a_body_is_taken_within_its_limit.Goals as goal

pub returns : goal.returns
returns c = keeps_limit c.no_more_is_taken_than_the_limit.ensures
