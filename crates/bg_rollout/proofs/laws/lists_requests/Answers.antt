use Rattle.std.proofs.Common.{List, map, ap, ◌∙◌}
use Rattle.bg_rollout.specs.RequestLists.{OpenAt, requests_of}
use Rattle.bg_rollout.proofs.OpenRequests.Lists.{list_is, list_of_past}
use Rattle.bg_rollout.proofs.OpenRequests.Shares.{shares_of}
use Rattle.bg_rollout.proofs.laws.lists_requests.Goals as goal

pub returns-clause-nodes : goal.returns-clause-nodes
returns-clause-nodes c b represents r =
    ap (λ (ls : List OpenAt). requests_of r ls) represents.lists
    ∙ list_of_past b.strategy b.past r (c.reachable.ensures b.strategy b.opening b.past represents.legal.allowed).open_scaled

pub returns-clause-numbers : goal.returns-clause-numbers
returns-clause-numbers c b represents r =
    ap (λ (ls : List OpenAt). map (λ q. q.number) (requests_of r ls)) represents.lists
    ∙ list_is b.strategy b.past r (c.reachable.ensures b.strategy b.opening b.past represents.legal.allowed).open_scaled

pub returns-clause-shares : goal.returns-clause-shares
returns-clause-shares c b represents r = shares_of b r represents
