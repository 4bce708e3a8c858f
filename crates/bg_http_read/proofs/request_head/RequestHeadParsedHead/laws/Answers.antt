use Rattle.bg_http_read.proofs.HeadsFound.{request_laws}
use Rattle.bg_http_read.proofs.request_head.RequestHeadParsedHead.laws.Goals as goal

pub returns : goal.returns
returns c = request_laws
