use Rattle.std.proofs.Common.{◌<◌, ◌∙◌, ap, arith, length, refl, slice_get, subst, sym}
use Rattle.std.proofs.lemmas.Option.{slice_get_read}
use Rattle.bg_endpoint_side.proofs.KeptLemmas.{fewer, order_left}
use Rattle.bg_endpoint_side.specs.KeptLists.{Kept}
use Rattle.bg_endpoint_side.proofs.kept_connections.KeptConnections.remove_at.Goals as goal

pub invariant_of-self : goal.invariant_of-self
invariant_of-self c =
    let connections = c.self.inside.connections.items in (
      rw c.remove.ensures.items (order_left connections c.args.place c.self.invariant.0),
      omega (arith, ap length c.remove.ensures.items, fewer connections c.args.place, c.self.invariant.1),
      omega (arith, c.remove.ensures.capacity, c.self.invariant.2),
    )

pub returns-clause-removed : goal.returns-clause-removed
returns-clause-removed c =
    let connections = c.self.inside.connections.items in
    let less = subst (λ (k : Kept). c.args.place < length k.connections) (sym c.self.view_is) c.requires in
    ap (λ (k : Kept). slice_get k.connections c.args.place) (sym c.self.view_is)
    ∙ slice_get_read connections (length connections) c.args.place c.remove.result refl less c.remove.ensures.value
