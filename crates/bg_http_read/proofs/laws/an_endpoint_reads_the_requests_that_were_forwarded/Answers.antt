use Rattle.bg_http_read.proofs.ForwardedRequests.{read_as_forwarded}
use Rattle.bg_http_read.proofs.laws.an_endpoint_reads_the_requests_that_were_forwarded.Goals as goal

pub returns : goal.returns
returns c = λ port forwardings others rest small read.
    read_as_forwarded c.only_one_length_goes_on.ensures.codings c.only_one_length_goes_on.ensures.lengths port forwardings others rest small read
