use Rattle.std.proofs.Common.{◌≡◌, ◌∷◌, [], ◌++◌, ◌<◌, ◌≤◌, ◌+◌, ℕ, true, false, ◌==◌, max, List, refl, sym, ap, ◌∙◌, subst, arith}
use Rattle.std.proofs.lemmas.Bool.Decides.{nat_tests}
use Rattle.bg_revisions.specs.declared.revision.Revision.{Revision}
use Rattle.bg_revisions.specs.Rosters.{Listing}
use Rattle.bg_history.specs.declared.entry.Entry.TheVariants as event
use Rattle.bg_history.specs.AttemptBounds.{stable_of}
use Rattle.bg_history.specs.Sizes.{last_number}
use Rattle.bg_history.specs.Allowed.{is_allowed}
use Rattle.bg_history_laws.specs.Reachable.{Reachable}
use Rattle.bg_promotion.specs.Represents.{CoreRepresents}
use Rattle.bg_history.specs.Tables.{table_of}
use Rattle.bg_rollout.specs.RequestLists.{OpenAt}
use Rattle.bg_rollout.specs.PastState.{lists_of}
use Rattle.bg_rollout.specs.Recording.{Recorded}
use Rattle.bg_rollout.specs.Invariant.{RolloutModel, PartsRepresent, model_of, parts_of}
use Rattle.bg_rollout.proofs.OpenRequests.Requests.{and_parts}
use Rattle.bg_rollout.proofs.WholeStates.Carrying.{Carries, represents_recorded, recorded_by, allowed_inside}
use Rattle.bg_rollout.proofs.ControlEvents.Deploys.{lists_new}
use Rattle.bg_rollout.proofs.Settlements.Marking.{room_for_next, scaled_inside}
use Rattle.bg_rollout.proofs.rollout.Rollout.take_new.Given.{Over}
use Rattle.bg_rollout.proofs.rollout.Rollout.take_new.Goals as goal

pub record-requires-clause-room : goal.record-requires-clause-room
record-requires-clause-room g c =
    let b = (model_of c.self.inside).routing in
    let represents : PartsRepresent b (parts_of c.self.inside) = c.self.invariant in
    room_for_next c.next_has_room.ensures b (parts_of c.self.inside) (event.Deploy c.in-Ok.revision c.args.name c.args.ports) c.selectors.result represents
    (c.reachable.ensures b.strategy b.opening b.past represents.routing.legal.allowed) (c.selectors.ensures b.strategy b.past represents.core)

-- the roster with one more revision at its end, with a number, a name and ports
abbrev with_new : Listing → ℕ → ℕ → List ℕ → List ℕ → Listing
with_new old size r name ports = record old {
  revisions = old.revisions ++ record { number = r; name = name; ports = ports; desired = size; available = 0 } ∷ [];
  last = r;
}

-- the number is the next one
number_is : (g : Over) (c : goal.After-push_reserved g) → c.in-Ok.revision ≡ last_number c.self.inside.history.past + 1
number_is g c =
    let b = (model_of c.self.inside).routing in
    let represents : PartsRepresent b (parts_of c.self.inside) = c.self.invariant in
    c.in-Ok.ensures.number ∙ ap (λ (n : ℕ). n + 1) represents.last

roster_is : (g : Over) (c : goal.After-push_reserved g)
    → c.add.new.self ≡ with_new c.self.inside.roster c.self.inside.strategy.preview_replicas (last_number c.self.inside.history.past + 1) c.args.name c.args.ports
roster_is g c =
    let old = c.self.inside.roster in
    let size = c.self.inside.strategy.preview_replicas in
    c.in-Ok.ensures.added
    ∙ ap (λ (name : List ℕ). with_new old size c.in-Ok.revision name c.get-2.result.now) c.get.ensures
    ∙ ap (λ (ports : List ℕ). with_new old size c.in-Ok.revision c.args.name ports) c.get-2.ensures
    ∙ ap (λ (r : ℕ). with_new old size r c.args.name c.args.ports) (number_is g c)

-- a number above all given ones isn't that of the stable revision
not_stable : (n r : ℕ) → n < r → (r == n) ≡ false
not_stable n r h = grind (arith, nat_tests)

above_last : (r last : ℕ) → last ≤ r → max r last ≡ r
above_last r last h = omega (arith, h)

-- the running state after the deploy
carried : (g : Over) (c : goal.After-push_reserved g) → Carries (model_of c.self.inside).routing (parts_of c.self.inside) (event.Deploy (last_number c.self.inside.history.past + 1) c.args.name c.args.ports)
    (record (parts_of c.self.inside) { core = c.deploy.new.self; roster = c.add.new.self; deadlines = c.record.new.self })
carried g c =
    let b = (model_of c.self.inside).routing in
    let r = last_number b.past + 1 in
    let name = c.args.name in
    let ports = c.args.ports in
    let represents : PartsRepresent b (parts_of c.self.inside) = c.self.invariant in
    let reach : Reachable b.strategy b.opening b.past = c.reachable.ensures b.strategy b.opening b.past represents.routing.legal.allowed in
    let above : last_number b.past < r = omega arith in
    let below : stable_of b.past ≤ last_number b.past = reach.given_to (stable_of b.past) (and_parts _ _ reach.stable).0 in
    let other : (r == stable_of b.past) ≡ false = not_stable (stable_of b.past) r (omega (arith, below)) in
    let roster = roster_is g c in
    record {
      allowed = allowed_inside _ _ (event.Deploy r name ports) c.self.view_is (allowed_next g c);
      plain = record { requests = refl; numbers = refl; entered = refl; calls = λ i. refl };
      core = subst (λ (n : ℕ). CoreRepresents b.strategy c.deploy.new.self (event.Deploy n name ports ∷ b.past)) (number_is g c) (c.deploy.ensures b.strategy b.past name ports represents.core);
      revisions = ap (λ (l : Listing). l.revisions) roster
          ∙ ap (λ (vs : List Revision). vs ++ record { number = r; name = name; ports = ports; desired = b.strategy.preview_replicas; available = 0 } ∷ []) represents.revisions
          ∙ sym (c.appends.ensures b.strategy b.opening b.past r name ports above other (reach.undeployed_size r above) (reach.undeployed_available r above));
      replicas = ap (λ (l : Listing). l.replicas) roster;
      last = ap (λ (l : Listing). l.last) roster ∙ sym (above_last r (last_number b.past) (omega arith));
      deadlines = subst (λ (n : ℕ). c.record.new.self ≡ table_of b.strategy (event.Deploy n name ports ∷ b.past)) (number_is g c)
          (c.record.ensures b.strategy b.past represents.deadlines (c.selectors.ensures b.strategy b.past represents.core) (scaled_inside _ _ _ c.self.view_is c.newest_is_scaled-newest_is_scaled.ensures) represents.moment);
      moment = represents.moment;
      given = refl;
      open_is = refl;
    }
  where
    allowed_next : (g : Over) (c : goal.After-push_reserved g)
        → is_allowed c.args.self.now.routing.strategy c.args.self.now.routing.opening (event.Deploy (last_number c.self.inside.history.past + 1) c.args.name c.args.ports) c.args.self.now.routing.past ≡ true
    allowed_next g c =
        subst (λ (n : ℕ). is_allowed c.args.self.now.routing.strategy c.args.self.now.routing.opening (event.Deploy (n + 1) c.args.name c.args.ports) c.args.self.now.routing.past ≡ true)
        (ap (λ (m : RolloutModel). last_number m.routing.past) (sym c.self.view_is)) c.requires.allowed

-- the lists and the history after the deploy
lists_after : (g : Over) (c : goal.After-push_reserved g) → c.add-2.new.self ≡ lists_of (event.Deploy (last_number c.self.inside.history.past + 1) c.args.name c.args.ports ∷ c.self.inside.history.past)
lists_after g c =
    let b = (model_of c.self.inside).routing in
    let represents : PartsRepresent b (parts_of c.self.inside) = c.self.invariant in
    let reach : Reachable b.strategy b.opening b.past = c.reachable.ensures b.strategy b.opening b.past represents.routing.legal.allowed in
    c.add-2.ensures
    ∙ ap (λ (r : ℕ). c.self.inside.lists ++ record { revision = r; requests = [] } ∷ []) (number_is g c)
    ∙ ap (λ (ls : List OpenAt). ls ++ record { revision = last_number b.past + 1; requests = [] } ∷ []) represents.routing.lists
    ∙ sym (lists_new b.strategy b.opening b.past c.args.name c.args.ports reach)

pushed : (g : Over) (c : goal.After-push_reserved g) → c.push_reserved.new.self
    ≡ record c.self.inside.history {
      past = event.Deploy (last_number c.self.inside.history.past + 1) c.args.name c.args.ports ∷ c.self.inside.history.past;
      spare = c.push_reserved.new.self.spare;
    }
pushed g c =
    c.push_reserved.ensures.entry
    ∙ ap (λ (r : ℕ). record c.self.inside.history { past = event.Deploy r c.args.name c.args.ports ∷ c.self.inside.history.past; spare = c.push_reserved.new.self.spare }) (number_is g c)

pub invariant_of-self-2 : goal.invariant_of-self-2
invariant_of-self-2 g c =
    let b = (model_of c.self.inside).routing in
    represents_recorded b (parts_of c.self.inside) (event.Deploy (last_number b.past + 1) c.args.name c.args.ports) _ c.add-2.new.self c.push_reserved.new.self c.self.inside.history c.self.invariant (carried g c) refl
    (pushed g c) (lists_after g c)

-- the deploy was recorded with the same number
renumbered : (name ports : List ℕ) (now new : RolloutModel) (m n : ℕ) → m ≡ n → Recorded (event.Deploy (m + 1) name ports) now new → Recorded (event.Deploy (n + 1) name ports) now new
renumbered name ports now new m n is made = subst (λ (k : ℕ). Recorded (event.Deploy (k + 1) name ports) now new) is made

pub returns-clause-ok : goal.returns-clause-ok
returns-clause-ok g c =
    let b = (model_of c.self.inside).routing in
    renumbered c.args.name c.args.ports _ _ (last_number b.past) _ (ap (λ (m : RolloutModel). last_number m.routing.past) c.self.view_is)
    (recorded_by b (parts_of c.self.inside) _ _ (event.Deploy (last_number b.past + 1) c.args.name c.args.ports) _ c.add-2.new.self c.push_reserved.new.self c.self.inside.history c.self.invariant (carried g c) c.self.view_is refl refl
    (pushed g c) c.push_reserved.ensures.spare (lists_after g c))
