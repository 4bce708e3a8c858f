use Rattle.std.proofs.Common.{refl}
use Rattle.bg_history.specs.declared.entry.Entry.TheVariants as event
use Rattle.bg_rollout.specs.Invariant.{PartsRepresent, model_of, parts_of}
use Rattle.bg_rollout.proofs.WholeStates.Carrying.{Carries, represents_recorded, recorded_by, allowed_inside}
use Rattle.bg_rollout.proofs.rollout.Rollout.take_tick.Given.{Over}
use Rattle.bg_rollout.proofs.rollout.Rollout.take_tick.Goals as goal

-- the running state after the tick
carried : (g : Over) (c : goal.After-push_reserved g) → Carries (model_of c.self.inside).routing (parts_of c.self.inside) (event.Tick c.args.moment) (record (parts_of c.self.inside) { moment = c.args.moment })
carried g c =
    let b = (model_of c.self.inside).routing in
    let represents : PartsRepresent b (parts_of c.self.inside) = c.self.invariant in
    record {
      allowed = allowed_inside _ _ (event.Tick c.args.moment) c.self.view_is c.requires.allowed;
      plain = record { requests = refl; numbers = refl; entered = refl; calls = λ i. refl };
      core = c.neutral.ensures _ _ _ refl represents.core;
      revisions = represents.revisions;
      replicas = refl;
      last = represents.last;
      deadlines = represents.deadlines;
      moment = refl;
      given = refl;
      open_is = refl;
    }

pub invariant_of-self : goal.invariant_of-self
invariant_of-self g c =
    let b = (model_of c.self.inside).routing in
    let represents : PartsRepresent b (parts_of c.self.inside) = c.self.invariant in
    represents_recorded b (parts_of c.self.inside) (event.Tick c.args.moment) _ b.lists c.push_reserved.new.self c.self.inside.history represents (carried g c) refl c.push_reserved.ensures.entry represents.routing.lists

pub returns : goal.returns
returns g c =
    let b = (model_of c.self.inside).routing in
    let represents : PartsRepresent b (parts_of c.self.inside) = c.self.invariant in
    recorded_by b (parts_of c.self.inside) _ _ (event.Tick c.args.moment) _ b.lists c.push_reserved.new.self c.self.inside.history represents (carried g c) c.self.view_is refl refl
    c.push_reserved.ensures.entry c.push_reserved.ensures.spare represents.routing.lists
