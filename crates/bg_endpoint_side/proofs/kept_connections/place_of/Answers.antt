use Rattle.bg_endpoint_side.proofs.KeptLemmas.{place_is}
use Rattle.bg_endpoint_side.specs.KeptLists.{has_key}
use Rattle.bg_endpoint_side.proofs.kept_connections.place_of.Goals as goal

pub returns : goal.returns
returns c = place_is (has_key c.args.key) c.args.connections.now c.index_of.result c.index_of.ensures
