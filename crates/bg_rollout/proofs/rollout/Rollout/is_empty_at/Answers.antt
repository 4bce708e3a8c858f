use Rattle.std.proofs.Common.{◌≡◌, ℕ, List, [], ◌∷◌, nat_eq, length, refl, ap, ◌∙◌, subst, arith}
use Rattle.std.proofs.lemmas.Bool.Decides.{nat_tests}
use Rattle.bg_history.specs.Deadlines.{is_empty}
use Rattle.bg_history.specs.Requests.{open_at}
use Rattle.bg_history_laws.specs.Reachable.{Reachable}
use Rattle.bg_rollout.specs.RequestLists.{OpenAt, requests_of}
use Rattle.bg_rollout.specs.Invariant.{RolloutModel, PartsRepresent, model_of, parts_of}
use Rattle.bg_rollout.proofs.OpenRequests.Lists.{list_counts}
use Rattle.bg_rollout.proofs.rollout.Rollout.is_empty_at.Goals as goal

none_is_empty : (xs : List ℕ) → nat_eq (length xs) 0 ≡ is_empty xs
none_is_empty [] = refl
none_is_empty (x ∷ xs) = grind (arith, nat_tests)

pub returns : goal.returns
returns g c =
    let b = (model_of c.self.inside).routing in
    let represents : PartsRepresent b (parts_of c.self.inside) = c.self.invariant in
    let reach : Reachable b.strategy b.opening b.past = c.reachable.ensures b.strategy b.opening b.past represents.routing.legal.allowed in
    let r = c.args.revision in
    subst (λ (m : RolloutModel). nat_eq c.count.result 0 ≡ is_empty (open_at r m.routing.past)) c.self.view_is
    (ap (λ (n : ℕ). nat_eq n 0)
    (c.count.ensures ∙ ap (λ (ls : List OpenAt). length (requests_of r ls)) represents.routing.lists ∙ list_counts b.strategy b.past r reach.open_scaled)
    ∙ none_is_empty (open_at r b.past))
