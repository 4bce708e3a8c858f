use Rattle.bg_streams.proofs.LawLemmas.{gives_head}
use Rattle.bg_streams.proofs.laws.a_client_reads_the_head_as_it_was_written.Goals as goal

pub returns : goal.returns
returns c =
    gives_head c.a_client_reads_the_head_that_was_written.ensures.head c.a_client_reads_the_head_that_was_written.ensures.chunks
