use Rattle.bg_http_read.proofs.OtherLimits.{heads_also}
use Rattle.bg_http_read.proofs.laws.a_limit_refuses_only_a_longer_body.Goals as goal

pub returns : goal.returns
returns c = heads_also
