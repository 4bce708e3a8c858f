use Rattle.bg_upload.proofs.HeadLemmas.{read_as_itself}
use Rattle.bg_upload.proofs.laws.an_endpoint_reads_the_head.Goals as goal

pub returns : goal.returns
returns c =
    read_as_itself c.an_endpoint_reads_the_head_before_a_body.ensures.head
    c.an_endpoint_reads_the_head_before_a_body.ensures.framing c.an_endpoint_reads_the_head_before_a_body.ensures.within
