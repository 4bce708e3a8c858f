use Rattle.std.proofs.Common.{refl}
use Rattle.bg_http_read.proofs.OneSequence.{adds_response}
use Rattle.bg_http_read.proofs.laws.a_drained_connection_continues_its_sequence.Goals as goal

pub returns-clause-first : goal.returns-clause-first
returns-clause-first c more = refl

pub returns-clause-response : goal.returns-clause-response
returns-clause-response c requests request responses response came seen left h reads =
    adds_response requests request responses response came seen left h reads
