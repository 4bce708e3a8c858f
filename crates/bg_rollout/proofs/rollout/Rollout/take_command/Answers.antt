use Rattle.std.proofs.Common.{◌≡◌, ◌∷◌, refl, sym, ap, ◌∙◌}
use Rattle.bg_revisions.specs.declared.revision.Selectors.{Selectors}
use Rattle.bg_revisions.specs.Rosters.{Listing}
use Rattle.bg_history_laws.specs.Listed.{revisions_of}
use Rattle.bg_rollout.specs.Invariant.{PartsRepresent, model_of, parts_of}
use Rattle.bg_rollout.proofs.WholeStates.Carrying.{Carries, represents_recorded, recorded_by, allowed_inside, core_inside}
use Rattle.bg_rollout.proofs.ControlEvents.Commands.{Leaves, command_leaves}
use Rattle.bg_rollout.proofs.Settlements.Marking.{room_for_next, scaled_inside}
use Rattle.bg_rollout.proofs.rollout.Rollout.take_command.Given.{Over}
use Rattle.bg_rollout.proofs.rollout.Rollout.take_command.Goals as goal

pub record-requires-clause-room : goal.record-requires-clause-room
record-requires-clause-room g c =
    let b = (model_of c.self.inside).routing in
    let represents : PartsRepresent b (parts_of c.self.inside) = c.self.invariant in
    room_for_next c.next_has_room.ensures b (parts_of c.self.inside) c.args.entry c.selectors-selectors.result represents
    (c.reachable.ensures b.strategy b.opening b.past represents.routing.legal.allowed) (c.selectors-selectors.ensures b.strategy b.past represents.core)

-- the roster after the command
resized_roster : (g : Over) (c : goal.After-push_reserved g) → c.resize_newest.new.roster
    ≡ record c.self.inside.roster { revisions = revisions_of c.self.inside.strategy c.self.inside.history.opening (c.args.entry ∷ c.self.inside.history.past) }
resized_roster g c =
    let b = (model_of c.self.inside).routing in
    let represents : PartsRepresent b (parts_of c.self.inside) = c.self.invariant in
    c.resize_newest.ensures b.opening b.past (ap (λ (x : Selectors). x.newest) (c.selectors-selectors.ensures b.strategy b.past represents.core)) represents.revisions

-- the running state after the command
carried : (g : Over) (c : goal.After-push_reserved g) → Carries (model_of c.self.inside).routing (parts_of c.self.inside) c.args.entry (record (parts_of c.self.inside) { core = c.args.core; roster = c.resize_newest.new.roster; deadlines = c.record.new.self })
carried g c =
    let b = (model_of c.self.inside).routing in
    let k = parts_of c.self.inside in
    let e = c.args.entry in
    let represents : PartsRepresent b k = c.self.invariant in
    let leaves : Leaves e b.past = command_leaves e b.past c.requires.command in
    let roster = resized_roster g c in
    record {
      allowed = allowed_inside _ _ e c.self.view_is c.requires.allowed;
      plain = leaves.plain;
      core = core_inside _ _ c.args.core e c.self.view_is c.requires.core;
      revisions = ap (λ (l : Listing). l.revisions) roster;
      replicas = ap (λ (l : Listing). l.replicas) roster;
      last = ap (λ (l : Listing). l.last) roster ∙ represents.last ∙ sym leaves.last;
      deadlines = c.record.ensures b.strategy b.past represents.deadlines (c.selectors-selectors.ensures b.strategy b.past represents.core) (scaled_inside _ _ _ c.self.view_is c.newest_is_scaled-newest_is_scaled.ensures) represents.moment;
      moment = represents.moment ∙ sym leaves.moment;
      given = refl;
      open_is = refl;
    }

pub invariant_of-self : goal.invariant_of-self
invariant_of-self g c =
    let b = (model_of c.self.inside).routing in
    let k = parts_of c.self.inside in
    let e = c.args.entry in
    let represents : PartsRepresent b k = c.self.invariant in
    let leaves : Leaves e b.past = command_leaves e b.past c.requires.command in
    represents_recorded b k e _ b.lists c.push_reserved.new.self c.self.inside.history represents (carried g c) refl c.push_reserved.ensures.entry (represents.routing.lists ∙ sym leaves.lists)

pub returns : goal.returns
returns g c =
    let b = (model_of c.self.inside).routing in
    let e = c.args.entry in
    let represents : PartsRepresent b (parts_of c.self.inside) = c.self.invariant in
    let leaves : Leaves e b.past = command_leaves e b.past c.requires.command in
    recorded_by b (parts_of c.self.inside) _ _ e _ b.lists c.push_reserved.new.self c.self.inside.history represents (carried g c) c.self.view_is refl refl
    c.push_reserved.ensures.entry c.push_reserved.ensures.spare (represents.routing.lists ∙ sym leaves.lists)
