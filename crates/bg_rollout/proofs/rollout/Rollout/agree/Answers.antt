use Rattle.std.proofs.Common.{◌≡◌, ◌<◌, slice_get, Some, sym, ap, ◌∙◌, subst}
use Rattle.std.proofs.lemmas.Option.{slice_get_read}
use Rattle.bg_rollout.specs.Invariant.{RolloutModel, PartsRepresent, model_of, parts_of}
use Rattle.bg_rollout.proofs.rollout.Rollout.agree.Goals as goal

pub returns-clause-known : goal.returns-clause-known
returns-clause-known g c =
    let b = (model_of c.self.inside).routing in
    let represents : PartsRepresent b (parts_of c.self.inside) = c.self.invariant in
    let within : c.args.index < b.opening.seats = subst (λ (m : RolloutModel). c.args.index < m.routing.opening.seats) (sym c.self.view_is) c.requires.within in
    subst (λ (m : RolloutModel). slice_get m.routing.seats c.args.index ≡ Some c.args.seat.now) c.self.view_is
    (slice_get_read b.seats b.opening.seats c.args.index _ (sym represents.routing.seats.count) within c.index_mut.ensures.value ∙ ap Some c.agree.ensures.equal)
