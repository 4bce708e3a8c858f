use Rattle.bg_origin.proofs.Staying.{all_forwarded}
use Rattle.bg_origin.proofs.laws.all_are_forwarded.Goals as goal

pub returns : goal.returns
returns c trusts client id fields = all_forwarded trusts client id fields
