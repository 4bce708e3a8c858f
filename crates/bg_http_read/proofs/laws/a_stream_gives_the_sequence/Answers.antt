use Rattle.std.proofs.Common.{refl}
use Rattle.bg_http_read.proofs.OneSequence.{adds_request, bytes_come}
use Rattle.bg_http_read.proofs.laws.a_stream_gives_the_sequence.Goals as goal

pub returns-clause-first : goal.returns-clause-first
returns-clause-first c more = refl

pub returns-clause-bytes : goal.returns-clause-bytes
returns-clause-bytes c requests came since more h = bytes_come requests came since more h

pub returns-clause-request : goal.returns-clause-request
returns-clause-request c asked requests request came since left h reads =
    adds_request asked requests request came since left h reads
