use Rattle.std.proofs.Common.{arith, ap, ◌∙◌}
use Rattle.bg_http_read.specs.HeadEnds.{after_bytes}
use Rattle.bg_http_read.specs.declared.head_end.HeadEnd.TheVariants as end
use Rattle.bg_http_read.proofs.LineEnds.{line_skipped, line_goes_on}
use Rattle.bg_http_read.proofs.head_end.from_line_end.Goals as goal

pub returns-in-Some-clause-same : goal.returns-in-Some-clause-same
returns-in-Some-clause-same c =
    ap (after_bytes end.Inside) c.behind.ensures
    ∙ line_skipped c.in-Some.place c.args.bytes.now (omega (arith, c.in-Some.ensures.0.high)) c.in-Some.ensures.0.before

pub returns-in-None-clause-same : goal.returns-in-None-clause-same
returns-in-None-clause-same c = line_goes_on c.args.bytes.now c.in-None.ensures
