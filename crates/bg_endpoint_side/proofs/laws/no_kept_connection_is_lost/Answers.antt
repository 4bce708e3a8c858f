use Rattle.bg_endpoint_side.proofs.KeptRunLemmas.{loses_none}
use Rattle.bg_endpoint_side.proofs.laws.no_kept_connection_is_lost.Goals as goal

pub returns : goal.returns
returns c key calls old new = loses_none key calls old new
