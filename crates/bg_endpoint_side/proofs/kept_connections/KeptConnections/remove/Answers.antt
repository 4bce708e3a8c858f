use Rattle.std.proofs.Common.{◌≡◌, ◌≢◌, ◌∙◌, None, Some, ap, subst, sym}
use Rattle.std.specs.List.{AllByRecursion}
use Rattle.bg_endpoint_side.proofs.KeptLemmas.{lacks}
use Rattle.bg_endpoint_side.specs.KeptLists.{AreInOrder, IsPlace, Kept, has_key}
use Rattle.bg_endpoint_side.proofs.kept_connections.KeptConnections.remove.Goals as goal

pub returns-in-Some-clause-gone : goal.returns-in-Some-clause-gone
returns-in-Some-clause-gone c =
    let is : c.as_slice.result.now ≡ c.args.self.now.connections =
    c.as_slice.ensures.value ∙ ap (λ (k : Kept). k.connections) c.self.view_is in
    let order = subst (λ (k : Kept). AreInOrder k.connections) c.self.view_is c.self.invariant.0 in
    let place = subst (λ xs. IsPlace (has_key c.args.key) xs (Some c.in-Some.place)) is c.in-Some.ensures in
    let left = ap (λ (k : Kept). k.connections) c.remove_at.ensures.left ∙ sym place.2 in
    rw left (lacks c.args.key c.args.self.now.connections order)

pub returns-in-None-clause-gone : goal.returns-in-None-clause-gone
returns-in-None-clause-gone c =
    let is : c.as_slice.result.now ≡ c.args.self.now.connections =
    c.as_slice.ensures.value ∙ ap (λ (k : Kept). k.connections) c.self.view_is in
    let order = subst (λ (k : Kept). AreInOrder k.connections) c.self.view_is c.self.invariant.0 in
    let place = subst (λ xs. IsPlace (has_key c.args.key) xs None) is c.in-None.ensures in
    subst (AllByRecursion (λ one. one.key ≢ c.args.key)) place.1 (lacks c.args.key c.args.self.now.connections order)
