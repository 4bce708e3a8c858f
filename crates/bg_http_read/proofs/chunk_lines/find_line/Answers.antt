use Rattle.std.proofs.Common.{arith}
use Rattle.bg_http_read.proofs.ChunkLines.{line_front, never_line, full_line, open_line}
use Rattle.bg_http_read.proofs.chunk_lines.find_line.Goals as goal

pub returns-in-Ok-Complete-clause-within : goal.returns-in-Ok-Complete-clause-within
returns-in-Ok-Complete-clause-within c =
    let h = rw c.in-Ok-Complete.field-0-is at c.in-Ok-Complete.ensures.complete in
    (line_front c.args.bytes.now c.min.result c.in-Ok-Complete.found.0 c.in-Ok-Complete.found.1 h.0 (omega (arith, c.min.ensures)) h.1).1

pub returns-in-Ok-Complete-clause-line : goal.returns-in-Ok-Complete-clause-line
returns-in-Ok-Complete-clause-line c =
    let h = rw c.in-Ok-Complete.field-0-is at c.in-Ok-Complete.ensures.complete in
    (line_front c.args.bytes.now c.min.result c.in-Ok-Complete.found.0 c.in-Ok-Complete.found.1 h.0 (omega (arith, c.min.ensures)) h.1).0

pub returns-else-bytes-lt-MOST_LINE-clause-bad : goal.returns-else-bytes-lt-MOST_LINE-clause-bad
returns-else-bytes-lt-MOST_LINE-clause-bad c =
    full_line c.args.bytes.now c.min.result c.min.ensures c.if-bytes-lt-MOST_LINE.false (rw c.in-Ok-Partial.field-0-is at c.in-Ok-Partial.ensures.partial)

pub returns-in-Err-clause-bad : goal.returns-in-Err-clause-bad
returns-in-Err-clause-bad c = never_line c.args.bytes.now c.min.result c.min.ensures c.in-Err.ensures.invalid

pub returns-then-bytes-lt-MOST_LINE-clause-none_yet :
    goal.returns-then-bytes-lt-MOST_LINE-clause-none_yet
returns-then-bytes-lt-MOST_LINE-clause-none_yet c =
    open_line c.args.bytes.now c.min.result c.min.ensures c.if-bytes-lt-MOST_LINE.true (rw c.in-Ok-Partial.field-0-is at c.in-Ok-Partial.ensures.partial)
    (rw c.in-Ok-Partial.field-0-is at c.in-Ok-Partial.ensures.unfinished)
