use Rattle.std.proofs.Common.{◌≡◌, ◌∷◌, ◌≤◌, ◌+◌, ◌==◌, ℕ, Bool, true, false, max, map, List, Option, Some, refl, sym, ap, ◌∙◌, subst, arith}
use Rattle.std.specs.Option.{IsSome}
use Rattle.std.proofs.lemmas.Bool.Decides.{nat_tests}
use Rattle.bg_revisions.specs.declared.revision.Revision.{Revision}
use Rattle.bg_revisions.specs.declared.revision.Selectors.{Selectors}
use Rattle.bg_revisions.specs.Rosters.{Listing, resized}
use Rattle.bg_history.specs.declared.entry.Entry.TheVariants as event
use Rattle.bg_history.specs.declared.entry.Entry.{Entry}
use Rattle.bg_history.specs.Kept.{Kept}
use Rattle.bg_history.specs.AttemptBounds.{stable_of}
use Rattle.bg_history.specs.Sizes.{desired, last_number}
use Rattle.bg_history.specs.Deadlines.{exists_in}
use Rattle.bg_history.specs.Templates.{namesake}
use Rattle.bg_history_laws.specs.Reachable.{Reachable}
use Rattle.bg_promotion.specs.Core.{Core}
use Rattle.bg_promotion.specs.Represents.{CoreRepresents}
use Rattle.bg_history.specs.Tables.{Table}
use Rattle.bg_history_laws.specs.Listed.{revisions_of}
use Rattle.bg_rollout.specs.declared.rollout.Rollout.TheInside.{Inside}
use Rattle.bg_rollout.specs.PastState.{lists_of}
use Rattle.bg_rollout.specs.Invariant.{RolloutModel, PartsRepresent, model_of, parts_of}
use Rattle.bg_rollout.proofs.OpenRequests.Requests.{eq_from}
use Rattle.bg_rollout.proofs.WholeStates.Carrying.{Carries, represents_recorded, recorded_by, recorded_left, allowed_inside}
use Rattle.bg_rollout.proofs.ControlEvents.Events.{found_there, grown}
use Rattle.bg_rollout.proofs.ControlEvents.Deploys.{namesake_exists, lists_known}
use Rattle.bg_rollout.proofs.Settlements.Marking.{room_for_next, scaled_inside}
use Rattle.bg_rollout.proofs.rollout.Rollout.take_known.Given.{Over}
use Rattle.bg_rollout.proofs.rollout.Rollout.take_known.Goals as goal
use Rattle.bg_rollout.proofs.rollout.Rollout.take_known.Goals.{then-revision-selectors, else-revision-selectors}

pub record-requires-clause-room : goal.record-requires-clause-room
record-requires-clause-room g c =
    let b = (model_of c.self.inside).routing in
    let represents : PartsRepresent b (parts_of c.self.inside) = c.self.invariant in
    room_for_next c.next_has_room.ensures b (parts_of c.self.inside) (event.Deploy c.args.revision c.args.name c.args.ports) c.selectors-selectors.result represents
    (c.reachable.ensures b.strategy b.opening b.past represents.routing.legal.allowed) (c.selectors-selectors.ensures b.strategy b.past represents.core)

-- the revision exists, in the fields of the rollout
exists_inside : (inside now : RolloutModel) (name : List ℕ) (r : ℕ) → inside ≡ now → namesake now.routing.opening name now.routing.past ≡ Some r → exists_in r inside.routing.past ≡ true
exists_inside inside now name r is known =
    namesake_exists inside.routing.opening name inside.routing.past r (subst (λ (m : RolloutModel). namesake m.routing.opening name m.routing.past ≡ Some r) (sym is) known)

some_is : (x : Option Revision) (v : Revision) → x ≡ Some v → IsSome x
some_is x v h = rw h refl

pub grow-requires : goal.grow-requires
grow-requires g c =
    let b = (model_of c.self.inside).routing in
    let represents : PartsRepresent b (parts_of c.self.inside) = c.self.invariant in
    let r = c.args.revision in
    some_is _ _ (found_there b.strategy b.opening b.past r _ represents.revisions (c.finds.ensures.number b.strategy b.opening b.past r) (exists_inside _ _ c.args.name r c.self.view_is c.requires.known))

eq_false : (m n : ℕ) → (m ≡ n → ⊥) → (m == n) ≡ false
eq_false m n h = go (m == n) refl where
  go : (t : Bool) → (m == n) ≡ t → (m == n) ≡ false
  go true e = absurd (h (eq_from m n e))
  go false e = e

eq_true : (m n : ℕ) → m ≡ n → (m == n) ≡ true
eq_true m n h = grind (arith, nat_tests)

-- the state of the rollout before the core records the deploy
record LeftBy {N : Type 0} (inside left : Inside N) (deadlines : Table) (e : Entry) : Type 0 where
  rest : left ≡ record inside { deadlines = deadlines; roster = left.roster }
  revisions : left.roster.revisions ≡ revisions_of inside.strategy inside.history.opening (e ∷ inside.history.past)
  replicas : left.roster.replicas ≡ inside.roster.replicas
  last : left.roster.last ≡ inside.roster.last

left_by : {N : Type 0} (inside left : Inside N) (deadlines : Table) (e : Entry) (roster : Listing) → left ≡ record inside { deadlines = deadlines; roster = roster }
    → roster.revisions ≡ revisions_of inside.strategy inside.history.opening (e ∷ inside.history.past)
    → roster.replicas ≡ inside.roster.replicas → roster.last ≡ inside.roster.last → LeftBy inside left deadlines e
left_by inside left deadlines e roster is revisions replicas last =
    subst (λ (i : Inside _). LeftBy inside i deadlines e) (sym is) (record { rest = refl; revisions = revisions; replicas = replicas; last = last })

followed : (g : Over) (c : goal.After-push_reserved g) → LeftBy c.self.inside c.if-revision-selectors.self-inside c.record.new.self (event.Deploy c.args.revision c.args.name c.args.ports)
followed g c =
    let inside = c.self.inside in
    let b = (model_of inside).routing in
    let r = c.args.revision in
    let represents : PartsRepresent b (parts_of inside) = c.self.invariant in
    let there : exists_in r b.past ≡ true = exists_inside _ _ c.args.name r c.self.view_is c.requires.known in
    let stable : c.selectors-selectors.result.stable ≡ stable_of b.past = ap (λ (x : Selectors). x.stable) (c.selectors-selectors.ensures b.strategy b.past represents.core) in
    elim c.if-revision-selectors.branch [
      | then-revision-selectors w ↦
          let made = grown b r b.strategy.preview_replicas inside.roster w.grow.new.roster represents.revisions (c.finds.ensures.number b.strategy b.opening b.past r) there w.grow.ensures in
          let other : (r == stable_of b.past) ≡ false = eq_false r (stable_of b.past) (λ h. w.if-revision-selectors.true (h ∙ sym stable)) in
          left_by inside _ _ _ w.grow.new.roster w.self-inside-is
          (ap (λ (l : Listing). l.revisions) made ∙ ap (map (resized r (max b.strategy.preview_replicas (desired b.strategy r b.past)))) represents.revisions
          ∙ sym (c.resizes.ensures.deploy b.strategy b.opening b.past r c.args.name c.args.ports there other))
          (ap (λ (l : Listing). l.replicas) made) (ap (λ (l : Listing). l.last) made)
      | else-revision-selectors w ↦
          let same : (r == stable_of b.past) ≡ true = eq_true r (stable_of b.past) (w.if-revision-selectors.false ∙ stable) in
          left_by inside _ _ _ inside.roster w.self-inside-is
          (represents.revisions ∙ sym (c.resizes.ensures.deploy_stable b.strategy b.opening b.past r c.args.name c.args.ports there same)) refl refl
    ]

below_last : (r last : ℕ) → r ≤ last → max r last ≡ last
below_last r last h = omega (arith, h)

-- the running state after the deploy
carried : (g : Over) (c : goal.After-push_reserved g) → Carries (model_of c.self.inside).routing (parts_of c.self.inside) (event.Deploy c.args.revision c.args.name c.args.ports)
    (record (parts_of c.self.inside) { core = c.deploy.new.self; roster = c.if-revision-selectors.self-inside.roster; deadlines = c.record.new.self })
carried g c =
    let inside = c.self.inside in
    let b = (model_of inside).routing in
    let r = c.args.revision in
    let e = event.Deploy r c.args.name c.args.ports in
    let represents : PartsRepresent b (parts_of inside) = c.self.invariant in
    let reach : Reachable b.strategy b.opening b.past = c.reachable.ensures b.strategy b.opening b.past represents.routing.legal.allowed in
    let there : exists_in r b.past ≡ true = exists_inside _ _ c.args.name r c.self.view_is c.requires.known in
    let left = followed g c in
    let core : c.if-revision-selectors.self-inside.core ≡ inside.core = ap (λ (i : Inside _). i.core) left.rest in
    record {
      allowed = allowed_inside _ _ e c.self.view_is c.requires.allowed;
      plain = record { requests = refl; numbers = refl; entered = refl; calls = λ i. refl };
      core = c.deploy.ensures b.strategy b.past c.args.name c.args.ports (subst (λ (k : Core). CoreRepresents b.strategy k b.past) (sym core) represents.core);
      revisions = left.revisions;
      replicas = left.replicas;
      last = left.last ∙ represents.last ∙ sym (below_last r (last_number b.past) (reach.given_to r there));
      deadlines = c.record.ensures b.strategy b.past represents.deadlines (c.selectors-selectors.ensures b.strategy b.past represents.core) (scaled_inside _ _ _ c.self.view_is c.newest_is_scaled-newest_is_scaled.ensures) represents.moment;
      moment = represents.moment;
      given = refl;
      open_is = refl;
    }

-- the lists and the history after the deploy
lists_after : (g : Over) (c : goal.After-push_reserved g) → c.self.inside.lists ≡ lists_of (event.Deploy c.args.revision c.args.name c.args.ports ∷ c.self.inside.history.past)
lists_after g c =
    let b = (model_of c.self.inside).routing in
    let represents : PartsRepresent b (parts_of c.self.inside) = c.self.invariant in
    represents.routing.lists
    ∙ sym (lists_known b.past c.args.revision c.args.name c.args.ports (c.existing_ascends.ensures b.past) (exists_inside _ _ c.args.name c.args.revision c.self.view_is c.requires.known))

pushed : (g : Over) (c : goal.After-push_reserved g) → c.push_reserved.new.self
    ≡ record c.self.inside.history { past = event.Deploy c.args.revision c.args.name c.args.ports ∷ c.self.inside.history.past; spare = c.push_reserved.new.self.spare }
pushed g c =
    c.push_reserved.ensures.entry
    ∙ ap (λ (h : Kept). record h { past = event.Deploy c.args.revision c.args.name c.args.ports ∷ h.past; spare = c.push_reserved.new.self.spare }) (ap (λ (i : Inside _). i.history) (followed g c).rest)

pub invariant_of-self : goal.invariant_of-self
invariant_of-self g c =
    let inside = c.self.inside in
    let left = followed g c in
    let e = event.Deploy c.args.revision c.args.name c.args.ports in
    subst (λ (i : Inside _). PartsRepresent (model_of (record i { core = c.deploy.new.self; history = c.push_reserved.new.self })).routing (parts_of (record i { core = c.deploy.new.self; history = c.push_reserved.new.self })))
    (sym left.rest)
    (represents_recorded (model_of inside).routing (parts_of inside) e _ inside.lists c.push_reserved.new.self inside.history c.self.invariant (carried g c) refl (pushed g c) (lists_after g c))

pub returns : goal.returns
returns g c =
    let inside = c.self.inside in
    let left = followed g c in
    let e = event.Deploy c.args.revision c.args.name c.args.ports in
    let less : c.push_reserved.new.self.spare + 1 ≡ inside.history.spare = c.push_reserved.ensures.spare ∙ ap (λ (i : Inside _). i.history.spare) left.rest in
    recorded_left (record inside { deadlines = c.record.new.self; roster = c.if-revision-selectors.self-inside.roster }) c.if-revision-selectors.self-inside _ c.deploy.new.self c.push_reserved.new.self e (sym left.rest)
    (recorded_by (model_of inside).routing (parts_of inside) _ _ e _ inside.lists c.push_reserved.new.self inside.history c.self.invariant (carried g c) c.self.view_is refl refl (pushed g c) less (lists_after g c))
