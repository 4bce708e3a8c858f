use Rattle.std.proofs.Common.{◌≡◌, Ok, map, refl, sym, ap, ◌∙◌, subst}
use Rattle.std.specs.Prelude.{OnOk}
use Rattle.bg_history.specs.declared.entry.Entry.TheVariants as event
use Rattle.bg_revisions.specs.Rosters.{Listing, reported}
use Rattle.bg_rollout.specs.Invariant.{PartsRepresent, model_of, parts_of}
use Rattle.bg_rollout.proofs.ControlEvents.Events.{reported_ok}
use Rattle.bg_rollout.proofs.WholeStates.Carrying.{Carries, represents_recorded, recorded_by, allowed_inside}
use Rattle.bg_rollout.proofs.rollout.Rollout.take_report.Given.{Over}
use Rattle.bg_rollout.proofs.rollout.Rollout.take_report.Goals as goal

-- the roster after the report
reported_roster : (g : Over) (c : goal.After-push_reserved g) → c.set_available-accepted.new.self
    ≡ record c.self.inside.roster { revisions = map (reported c.args.revision c.args.size) c.self.inside.roster.revisions }
reported_roster g c =
    let b = (model_of c.self.inside).routing in
    let r = c.args.revision in
    let n = c.args.size in
    let represents : PartsRepresent b (parts_of c.self.inside) = c.self.invariant in
    let fits = allowed_inside _ _ (event.Available r n) c.self.view_is c.requires.allowed in
    let done : c.set_available-accepted.result ≡ Ok tt =
    c.set_available-accepted.ensures.result ∙ reported_ok b _ r n represents.revisions (c.finds.ensures.number b.strategy b.opening b.past r) fits in
    subst (λ t. OnOk t (c.set_available-accepted.new.self ≡ record c.self.inside.roster { revisions = map (reported r n) c.self.inside.roster.revisions })) done
    c.set_available-accepted.ensures.reported

-- the running state after the report
carried : (g : Over) (c : goal.After-push_reserved g) → Carries (model_of c.self.inside).routing (parts_of c.self.inside) (event.Available c.args.revision c.args.size) (record (parts_of c.self.inside) { roster = c.set_available-accepted.new.self })
carried g c =
    let b = (model_of c.self.inside).routing in
    let k = parts_of c.self.inside in
    let r = c.args.revision in
    let n = c.args.size in
    let represents : PartsRepresent b k = c.self.invariant in
    let roster = reported_roster g c in
    record {
      allowed = allowed_inside _ _ (event.Available r n) c.self.view_is c.requires.allowed;
      plain = record { requests = refl; numbers = refl; entered = refl; calls = λ i. refl };
      core = c.neutral.ensures _ _ _ refl represents.core;
      revisions = ap (λ (l : Listing). l.revisions) roster ∙ ap (map (reported r n)) represents.revisions ∙ sym (c.reports.ensures b.strategy b.opening b.past r n);
      replicas = ap (λ (l : Listing). l.replicas) roster;
      last = ap (λ (l : Listing). l.last) roster ∙ represents.last;
      deadlines = represents.deadlines;
      moment = represents.moment;
      given = refl;
      open_is = refl;
    }

pub invariant_of-self : goal.invariant_of-self
invariant_of-self g c =
    let b = (model_of c.self.inside).routing in
    let k = parts_of c.self.inside in
    let r = c.args.revision in
    let n = c.args.size in
    let represents : PartsRepresent b k = c.self.invariant in
    represents_recorded b k (event.Available r n) _ b.lists c.push_reserved.new.self c.self.inside.history represents (carried g c) refl c.push_reserved.ensures.entry represents.routing.lists

pub returns : goal.returns
returns g c =
    let b = (model_of c.self.inside).routing in
    let represents : PartsRepresent b (parts_of c.self.inside) = c.self.invariant in
    recorded_by b (parts_of c.self.inside) _ _ (event.Available c.args.revision c.args.size) _ b.lists c.push_reserved.new.self c.self.inside.history represents (carried g c) c.self.view_is refl refl
    c.push_reserved.ensures.entry c.push_reserved.ensures.spare represents.routing.lists
