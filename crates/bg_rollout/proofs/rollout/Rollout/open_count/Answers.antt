use Rattle.std.proofs.Common.{◌≡◌, List, length, ap, ◌∙◌, subst}
use Rattle.bg_history.specs.Requests.{open_at}
use Rattle.bg_history_laws.specs.Reachable.{Reachable}
use Rattle.bg_rollout.specs.RequestLists.{OpenAt, requests_of}
use Rattle.bg_rollout.specs.Invariant.{RolloutModel, PartsRepresent, model_of, parts_of}
use Rattle.bg_rollout.proofs.OpenRequests.Lists.{list_counts}
use Rattle.bg_rollout.proofs.rollout.Rollout.open_count.Goals as goal

pub returns : goal.returns
returns g c =
    let b = (model_of c.self.inside).routing in
    let represents : PartsRepresent b (parts_of c.self.inside) = c.self.invariant in
    let reach : Reachable b.strategy b.opening b.past = c.reachable.ensures b.strategy b.opening b.past represents.routing.legal.allowed in
    let r = c.args.number in
    subst (λ (m : RolloutModel). c.count.result ≡ length (open_at r m.routing.past)) c.self.view_is
    (c.count.ensures ∙ ap (λ (ls : List OpenAt). length (requests_of r ls)) represents.routing.lists ∙ list_counts b.strategy b.past r reach.open_scaled)
