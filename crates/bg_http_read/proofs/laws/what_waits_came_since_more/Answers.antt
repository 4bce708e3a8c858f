use Rattle.bg_http_read.proofs.OneRequest.{waits_behind}
use Rattle.bg_http_read.proofs.laws.what_waits_came_since_more.Goals as goal

pub returns : goal.returns
returns c = λ asked request before fresh left lacks reads. waits_behind asked request before fresh left lacks reads
