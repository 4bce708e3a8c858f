use Rattle.std.proofs.Common.{◌∷◌, [], ap, arith, length, length-append, subst, sym}
use Rattle.std.specs.List.{AllByRecursion}
use Rattle.bg_endpoint_side.proofs.KeptLemmas.{order_pushed}
use Rattle.bg_endpoint_side.specs.KeptLists.{IsLater, Kept}
use Rattle.bg_endpoint_side.proofs.kept_connections.KeptConnections.push.Goals as goal

pub invariant_of-self : goal.invariant_of-self
invariant_of-self c =
    let connections = c.self.inside.connections.items in
    let newest = subst (λ (k : Kept). AllByRecursion (λ one. IsLater one c.args.connection) k.connections) (sym c.self.view_is)
    c.requires.newest in
    let size = length-append connections (c.args.connection ∷ []) in
    let items = ap length c.in-Ok.ensures.items in (
      rw c.in-Ok.ensures.items (order_pushed connections c.args.connection c.self.invariant.0 newest),
      omega (arith, items, size, c.requires.room, ap (λ (k : Kept). length k.connections) c.self.view_is, ap (λ (k : Kept). k.most) c.self.view_is),
      omega (arith, c.self.invariant.2, c.in-Ok.ensures.capacity),
    )
