use Rattle.bg_http_read.proofs.HeadsFound.{response_laws}
use Rattle.bg_http_read.proofs.response_head.ResponseHeadParsedHead.laws.Goals as goal

pub returns : goal.returns
returns c = response_laws
