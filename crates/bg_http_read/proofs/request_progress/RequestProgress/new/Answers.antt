use Rattle.std.proofs.Common.{refl}
use Rattle.bg_http_read.specs.declared.head_end.HeadEnd.TheVariants as head_end
use Rattle.bg_http_read.specs.declared.request_progress.RequestStage.TheVariants as part
use Rattle.bg_http_read.proofs.FedRequests.{nothing_fed, nothing_short}
use Rattle.bg_http_read.proofs.request_progress.RequestProgress.new.Goals as goal

pub returns-clause-at : goal.returns-clause-at
returns-clause-at c = nothing_fed (part.Head head_end.Blank) refl

pub returns-clause-lacks : goal.returns-clause-lacks
returns-clause-lacks c = nothing_short (part.Head head_end.Blank) refl
