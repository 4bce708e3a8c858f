use Rattle.bg_endpoint_side.proofs.KeptLemmas.{place_is}
use Rattle.bg_endpoint_side.specs.KeptLists.{is_among}
use Rattle.bg_endpoint_side.proofs.kept_connections.place_to.Goals as goal

pub returns : goal.returns
returns c = place_is (is_among c.args.ports.now) c.args.connections.now c.index_to.result c.index_to.ensures
