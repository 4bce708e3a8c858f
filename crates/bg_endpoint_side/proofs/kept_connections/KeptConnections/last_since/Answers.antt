use Rattle.std.proofs.Common.{◌≡◌, ◌∙◌, ◌-◌, ap, length, option_copied, slice_get, subst, sym, Some}
use Rattle.bg_endpoint_side.proofs.KeptLemmas.{last_at}
use Rattle.bg_endpoint_side.specs.KeptLists.{Kept, last_since}
use Rattle.bg_endpoint_side.proofs.kept_connections.KeptConnections.last_since.Goals as goal

pub returns-in-Some : goal.returns-in-Some
returns-in-Some c =
    let at = subst (λ ys. slice_get ys (length ys - 1) ≡ Some c.in-Some.last.now) c.deref.ensures.value
    (sym c.last.ensures.value ∙ ap option_copied c.in-Some.is) in
    sym (last_at c.self.inside.connections.items c.in-Some.last.now at)
    ∙ ap (λ (k : Kept). last_since k.connections) c.self.view_is
