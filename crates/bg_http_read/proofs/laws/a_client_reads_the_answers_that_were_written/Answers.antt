use Rattle.bg_http_read.proofs.AnsweredRequests.{read_as_answered}
use Rattle.bg_http_read.proofs.laws.a_client_reads_the_answers_that_were_written.Goals as goal

pub returns : goal.returns
returns c = λ answerings others rest good.
    read_as_answered c.only_one_length_goes_on.ensures.codings c.only_one_length_goes_on.ensures.lengths answerings others rest good
