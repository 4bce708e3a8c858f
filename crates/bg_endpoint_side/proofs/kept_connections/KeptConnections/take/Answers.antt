use Rattle.std.proofs.Common.{◌≡◌, ◌∙◌, Some, ap, subst}
use Rattle.bg_endpoint_side.proofs.KeptLemmas.{newest_taken}
use Rattle.bg_endpoint_side.specs.KeptLists.{IsLastPlace, Kept, has_port}
use Rattle.bg_endpoint_side.proofs.kept_connections.KeptConnections.take.Goals as goal

pub returns-in-Some-clause-taken : goal.returns-in-Some-clause-taken
returns-in-Some-clause-taken c =
    let is : c.as_slice.result.now ≡ c.args.self.now.connections =
    c.as_slice.ensures.value ∙ ap (λ (k : Kept). k.connections) c.self.view_is in
    let last = subst (λ xs. IsLastPlace (has_port c.args.port) xs (Some c.in-Some.place)) is c.in-Some.ensures in
    let left = ap (λ (k : Kept). k.connections) c.remove_at.ensures.left in
    rw left (newest_taken (has_port c.args.port) c.args.self.now.connections c.in-Some.place c.remove_at.result last
    c.remove_at.ensures.removed)
