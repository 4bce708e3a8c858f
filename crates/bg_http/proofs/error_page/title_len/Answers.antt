use Rattle.bg_http.proofs.Refusals.{titled}
use Rattle.bg_http.proofs.error_page.title_len.Goals as goal

pub returns-clause-is : goal.returns-clause-is
returns-clause-is c = rw c.reason.ensures (titled c.args.status c.requires)
