use Rattle.bg_http_read.proofs.TrailersFound.{never_trailers, full_trailers, open_trailers}
use Rattle.bg_http_read.proofs.trailers.find_trailers.Goals as goal

pub returns-else-bytes-lt-MOST_TRAILERS-clause-bad :
    goal.returns-else-bytes-lt-MOST_TRAILERS-clause-bad
returns-else-bytes-lt-MOST_TRAILERS-clause-bad c =
    full_trailers c.args.bytes.now c.min.result c.min.ensures c.if-bytes-lt-MOST_TRAILERS.false (rw c.in-Ok-Partial.field-0-is at c.in-Ok-Partial.ensures.partial)

pub returns-in-Err-clause-bad : goal.returns-in-Err-clause-bad
returns-in-Err-clause-bad c = never_trailers c.args.bytes.now c.min.result c.min.ensures c.in-Err.ensures.no_room

pub returns-then-bytes-lt-MOST_TRAILERS-clause-none_yet :
    goal.returns-then-bytes-lt-MOST_TRAILERS-clause-none_yet
returns-then-bytes-lt-MOST_TRAILERS-clause-none_yet c =
    open_trailers c.args.bytes.now c.min.result c.min.ensures c.if-bytes-lt-MOST_TRAILERS.true (rw c.in-Ok-Partial.field-0-is at c.in-Ok-Partial.ensures.partial)
    (rw c.in-Ok-Partial.field-0-is at c.in-Ok-Partial.ensures.unfinished)
