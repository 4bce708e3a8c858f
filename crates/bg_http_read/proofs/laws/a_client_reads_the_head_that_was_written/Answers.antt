use Rattle.bg_http_read.proofs.AnsweredHeads.{head_is_read}
use Rattle.bg_http_read.proofs.ChunkedHeads.{judged_in_chunks}
use Rattle.bg_http_read.proofs.WrittenResponses.{came_is_writable, length_is_number}
use Rattle.bg_http_read.proofs.laws.a_client_reads_the_head_that_was_written.Goals as goal

pub returns-clause-head : goal.returns-clause-head
returns-clause-head c keeps named request response more head told =
    head_is_read keeps named response more
    (came_is_writable request response head (length_is_number head.named head.head response.length told))

pub returns-clause-chunks : goal.returns-clause-chunks
returns-clause-chunks c = judged_in_chunks c.only_one_length_goes_on.ensures.codings
