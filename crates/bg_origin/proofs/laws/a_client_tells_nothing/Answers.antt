use Rattle.bg_origin.proofs.Staying.{nothing_told}
use Rattle.bg_origin.proofs.laws.a_client_tells_nothing.Goals as goal

pub returns : goal.returns
returns c fields = nothing_told fields fields
