use Rattle.std.proofs.Common.{◌≡◌, ◌∙◌, ap, max, subst}
use Rattle.bg_endpoint_side.proofs.KeptLemmas.{behind, put_later}
use Rattle.bg_endpoint_side.specs.KeptLists.{AreInOrder, Kept, last_since}
use Rattle.bg_endpoint_side.proofs.kept_connections.KeptConnections.put.Goals as goal

pub push-requires-clause-newest : goal.push-requires-clause-newest
push-requires-clause-newest c =
    let left = c.remove.new.self.connections in
    let order = subst (λ (k : Kept). AreInOrder k.connections) c.self.view_is c.self.invariant.0 in
    let later = put_later c.args.key c.args.port c.args.now left c.remove.ensures.gone order in
    let since : c.max-since.result ≡ max c.args.now (last_since left) =
    c.max-since.ensures ∙ ap (max c.args.now) c.last_since.ensures in
    behind _ c.make_room-oldest.result c.make_room-oldest.new.self.connections
    (rw (c.make_room-oldest.ensures.taken, since) later)
