use Rattle.bg_http_read.proofs.FramedHeads.{judged_as_framed, judged_within, read_before_body}
use Rattle.bg_http_read.proofs.laws.an_endpoint_reads_the_head_before_a_body.Goals as goal

pub returns-clause-head : goal.returns-clause-head
returns-clause-head c = read_before_body

pub returns-clause-framing : goal.returns-clause-framing
returns-clause-framing c =
    judged_as_framed c.only_one_length_goes_on.ensures.codings c.only_one_length_goes_on.ensures.lengths

pub returns-clause-within : goal.returns-clause-within
returns-clause-within c = judged_within
