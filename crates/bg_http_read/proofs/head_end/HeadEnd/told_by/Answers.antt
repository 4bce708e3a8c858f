use Rattle.bg_http_read.proofs.LineEnds.{over_stays}
use Rattle.bg_http_read.proofs.head_end.HeadEnd.told_by.Goals as goal

pub returns-in-Over-clause-same : goal.returns-in-Over-clause-same
returns-in-Over-clause-same c = rw c.in-Over.is (over_stays c.args.bytes.now)
