use Rattle.std.proofs.Common.{inl, sym}
use Rattle.bg_operator.proofs.LongLines.{is_too_long, too_long_for_http}
use Rattle.bg_operator.proofs.operator_lines.line_read.Goals as goal

pub returns-in-TooLong : goal.returns-in-TooLong
returns-in-TooLong c xs ys given =
    let long = rw c.in-TooLong.is at given in
    (long.0, long.1, inl (sym (is_too_long long.0 long.2)), too_long_for_http long.0 long.2)
