use Rattle.std.proofs.Common.{◌≡◌, ◌∷◌, ◌==◌, ◌≤◌, ◌+◌, not, max, true, false, Bool, ℕ, List, map, filter, Option, Some, refl, sym, ap, ◌∙◌, subst, arith}
use Rattle.std.specs.Option.{IsSome, IsSomeAnd}
use Rattle.bg_strategy.specs.declared.strategy.Strategy.{Strategy}
use Rattle.bg_revisions.specs.declared.revision.Revision.{Revision}
use Rattle.bg_revisions.specs.Rosters.{Listing, resized}
use Rattle.bg_history.specs.declared.entry.Entry.{Entry}
use Rattle.bg_history.specs.declared.entry.Entry.TheVariants as entry
use Rattle.bg_history.specs.declared.entry.Outcome.{Outcome}
use Rattle.bg_history.specs.declared.entry.Outcome.TheVariants.{Ready, Resumed, Switched, Promoted, ScaledDown, Removed}
use Rattle.bg_history.specs.Kept.{Opening, Kept}
use Rattle.bg_history.specs.Sizes.{last_number, desired, is_scaled}
use Rattle.bg_history.specs.AttemptBounds.{moment}
use Rattle.bg_promotion.specs.Core.{Core}
use Rattle.bg_promotion.specs.Represents.{CoreRepresents, is_neutral}
use Rattle.bg_history.specs.Promotion.{first_promotion}
use Rattle.bg_promotion.specs.Answers.{is_step}
use Rattle.bg_history.specs.Tables.{Table}
use Rattle.bg_history_laws.specs.Listed.{revision_of, revisions_of}
use Rattle.bg_history_laws.specs.Reachable.{Reachable}
use Rattle.bg_rollout.specs.RequestLists.{OpenAt, is_empty_at}
use Rattle.bg_rollout.specs.PastState.{lists_of}
use Rattle.bg_rollout.specs.declared.rollout.Rollout.TheInside.{Inside}
use Rattle.bg_rollout.specs.Invariant.{PartsRepresent, model_of, parts_of}
use Rattle.bg_rollout.proofs.ControlEvents.Events.{found_there, wants}
use Rattle.std.proofs.lemmas.Bool.Decides.{nat_tests}
use Rattle.bg_history.specs.Allowed.{is_allowed}
use Rattle.bg_history.specs.Deadlines.{exists_in}
use Rattle.bg_rollout.proofs.OpenRequests.Lists.{empty_list, lists-Removed}
use Rattle.bg_rollout.proofs.Settlements.Marking.{room_for_next, scaled_inside}
use Rattle.bg_rollout.proofs.Settlements.Outcomes.{allowed_is_next, no_step_is_neutral, resumed_is_newest, scaled_down_exists, removed_was}
use Rattle.bg_rollout.proofs.WholeStates.Carrying.{Carries, represents_recorded, recorded_by, recorded_left, allowed_inside}
use Rattle.bg_rollout.proofs.rollout.Rollout.record_outcome.Given.{Over}
use Rattle.bg_rollout.proofs.rollout.Rollout.record_outcome.Goals as goal
use Rattle.bg_rollout.proofs.rollout.Rollout.record_outcome.Goals.{After-push_reserved, in-Resumed, in-ScaledDown, in-Removed, in-Ready, in-Switched, in-Promoted}

pub record-requires-clause-room : goal.record-requires-clause-room
record-requires-clause-room g c =
    let b = (model_of c.self.inside).routing in
    let represents : PartsRepresent b (parts_of c.self.inside) = c.self.invariant in
    room_for_next c.next_has_room.ensures b (parts_of c.self.inside) (entry.Outcome c.args.outcome) c.selectors.result represents
    (c.reachable.ensures b.strategy b.opening b.past represents.routing.legal.allowed) (c.selectors.ensures b.strategy b.past represents.core)

some_is : (x : Option Revision) (v : Revision) → x ≡ Some v → IsSome x
some_is x v h = rw h refl

pub set_desired-requires : goal.set_desired-requires
set_desired-requires g c =
    let b = (model_of c.self.inside).routing in
    let represents : PartsRepresent b (parts_of c.self.inside) = c.self.invariant in
    let reach : Reachable b.strategy b.opening b.past = c.reachable.ensures b.strategy b.opening b.past represents.routing.legal.allowed in
    let r = c.in-Resumed.revision in
    let may = allowed_inside _ _ (entry.Outcome c.args.outcome) c.self.view_is c.requires.allowed in
    let newest = resumed_is_newest b.strategy b.opening b.past r (subst (λ (x : Outcome). is_allowed b.strategy b.opening (entry.Outcome x) b.past ≡ true) c.in-Resumed.is may) in
    some_is _ _ (found_there b.strategy b.opening b.past r _ represents.revisions (c.finds.ensures.number b.strategy b.opening b.past r) (ap (λ (q : ℕ). exists_in q b.past) newest ∙ reach.newest))

pub set_desired-requires-in-ScaledDown : goal.set_desired-requires-in-ScaledDown
set_desired-requires-in-ScaledDown g c =
    let b = (model_of c.self.inside).routing in
    let represents : PartsRepresent b (parts_of c.self.inside) = c.self.invariant in
    let r = c.in-ScaledDown.revision in
    let may = allowed_inside _ _ (entry.Outcome c.args.outcome) c.self.view_is c.requires.allowed in
    let there = scaled_down_exists b.strategy b.opening b.past r (subst (λ (x : Outcome). is_allowed b.strategy b.opening (entry.Outcome x) b.past ≡ true) c.in-ScaledDown.is may) in
    some_is _ _ (found_there b.strategy b.opening b.past r _ represents.revisions (c.finds.ensures.number b.strategy b.opening b.past r) there)

no_size : (x : Option Revision) (s : Strategy) (o : Opening) (past : List Entry) (r : ℕ) → x ≡ Some (revision_of s o past r) → is_scaled s r past ≡ false → IsSomeAnd x (λ v. v.desired ≡ 0)
no_size x s o past r h unscaled =
    let none : desired s r past ≡ 0 = grind (arith, nat_tests) in
    rw h (wants s o past r ∙ none)

pub remove-requires : goal.remove-requires
remove-requires g c =
    let b = (model_of c.self.inside).routing in
    let represents : PartsRepresent b (parts_of c.self.inside) = c.self.invariant in
    let r = c.in-Removed.revision in
    let may = allowed_inside _ _ (entry.Outcome c.args.outcome) c.self.view_is c.requires.allowed in
    let was = removed_was b.strategy b.opening b.past r (subst (λ (x : Outcome). is_allowed b.strategy b.opening (entry.Outcome x) b.past ≡ true) c.in-Removed.is may) in
    no_size _ b.strategy b.opening b.past r (found_there b.strategy b.opening b.past r _ represents.revisions (c.finds.ensures.number b.strategy b.opening b.past r) was.0) was.1

pub drop_list-requires : goal.drop_list-requires
drop_list-requires g c =
    let b = (model_of c.self.inside).routing in
    let represents : PartsRepresent b (parts_of c.self.inside) = c.self.invariant in
    let reach : Reachable b.strategy b.opening b.past = c.reachable.ensures b.strategy b.opening b.past represents.routing.legal.allowed in
    let r = c.in-Removed.revision in
    let may = allowed_inside _ _ (entry.Outcome c.args.outcome) c.self.view_is c.requires.allowed in
    let was = removed_was b.strategy b.opening b.past r (subst (λ (x : Outcome). is_allowed b.strategy b.opening (entry.Outcome x) b.past ≡ true) c.in-Removed.is may) in
    ap (is_empty_at r) represents.routing.lists ∙ empty_list b.past r (reach.unscaled_empty r was.1)

-- the roster and the lists after the outcome
record Followed {N : Type 0} (inside : Inside N) (x : Outcome) (roster : Listing) (kept : List OpenAt) : Type 0 where
  revisions : roster.revisions ≡ revisions_of inside.strategy inside.history.opening (entry.Outcome x ∷ inside.history.past)
  replicas : roster.replicas ≡ inside.roster.replicas
  last : roster.last ≡ inside.roster.last
  lists : kept ≡ lists_of (entry.Outcome x ∷ inside.history.past)

-- the outcome changes the size of one revision
resized_by : {N : Type 0} (inside : Inside N) (x v : Outcome) (r n : ℕ) (roster : Listing) → PartsRepresent (model_of inside).routing (parts_of inside) → x ≡ v
    → roster ≡ record inside.roster { revisions = map (resized r n) inside.roster.revisions }
    → revisions_of inside.strategy inside.history.opening (entry.Outcome v ∷ inside.history.past) ≡ map (resized r n) (revisions_of inside.strategy inside.history.opening inside.history.past)
    → lists_of (entry.Outcome v ∷ inside.history.past) ≡ lists_of inside.history.past
    → Followed inside x roster inside.lists
resized_by inside x v r n roster represents is made law lists = subst (λ (y : Outcome). Followed inside y roster inside.lists) (sym is) (record {
  revisions = ap (λ (l : Listing). l.revisions) made ∙ ap (map (resized r n)) represents.revisions ∙ sym law;
  replicas = ap (λ (l : Listing). l.replicas) made;
  last = ap (λ (l : Listing). l.last) made;
  lists = represents.routing.lists ∙ sym lists;
})

-- the outcome changes the size of no revision
kept_by : {N : Type 0} (inside : Inside N) (x v : Outcome) → PartsRepresent (model_of inside).routing (parts_of inside) → x ≡ v
    → revisions_of inside.strategy inside.history.opening (entry.Outcome v ∷ inside.history.past) ≡ revisions_of inside.strategy inside.history.opening inside.history.past
    → lists_of (entry.Outcome v ∷ inside.history.past) ≡ lists_of inside.history.past
    → Followed inside x inside.roster inside.lists
kept_by inside x v represents is law lists = subst (λ (y : Outcome). Followed inside y inside.roster inside.lists) (sym is) (record {
  revisions = represents.revisions ∙ sym law;
  replicas = refl;
  last = refl;
  lists = represents.routing.lists ∙ sym lists;
})

-- the outcome removes a revision
removed_by : {N : Type 0} (inside : Inside N) (x : Outcome) (r : ℕ) (roster : Listing) (kept : List OpenAt) → PartsRepresent (model_of inside).routing (parts_of inside) → x ≡ Removed r
    → roster ≡ record inside.roster { revisions = filter (λ v. not (v.number == r)) inside.roster.revisions }
    → kept ≡ filter (λ l. not (l.revision == r)) inside.lists
    → revisions_of inside.strategy inside.history.opening (entry.Outcome (Removed r) ∷ inside.history.past)
    ≡ filter (λ v. not (v.number == r)) (revisions_of inside.strategy inside.history.opening inside.history.past)
    → Followed inside x roster kept
removed_by inside x r roster kept represents is made dropped law = subst (λ (y : Outcome). Followed inside y roster kept) (sym is) (record {
  revisions = ap (λ (l : Listing). l.revisions) made ∙ ap (λ (vs : List Revision). filter (λ v. not (v.number == r)) vs) represents.revisions ∙ sym law;
  replicas = ap (λ (l : Listing). l.replicas) made;
  last = ap (λ (l : Listing). l.last) made;
  lists = dropped ∙ ap (λ (ls : List OpenAt). filter (λ l. not (l.revision == r)) ls) represents.routing.lists ∙ sym (lists-Removed inside.history.past r);
})

most : (n m : ℕ) → m ≤ n → max n m ≡ n
most n m le = omega arith

-- the state of the rollout before the step of the attempt
record LeftBy {N : Type 0} (inside left : Inside N) (deadlines : Table) (x seen : Outcome) : Type 0 where
  same : seen ≡ x
  rest : left ≡ record inside { deadlines = deadlines; roster = left.roster; lists = left.lists }
  follows : Followed inside x left.roster left.lists

left_by : {N : Type 0} (inside left : Inside N) (deadlines : Table) (x seen v : Outcome) (roster : Listing) (kept : List OpenAt) → seen ≡ v → x ≡ v → left ≡ record inside { deadlines = deadlines; roster = roster; lists = kept }
    → Followed inside x roster kept → LeftBy inside left deadlines x seen
left_by inside left deadlines x seen v roster kept saw asked is follows = subst (λ (i : Inside _). LeftBy inside i deadlines x seen) (sym is) (record { same = saw ∙ sym asked; rest = refl; follows = follows })

followed : (g : Over) (c : After-push_reserved g) → LeftBy c.self.inside c.match-outcome.self-inside c.record.new.self c.args.outcome c.match-outcome.outcome
followed g c =
    let inside = c.self.inside in
    let s = inside.strategy in
    let o = inside.history.opening in
    let past = inside.history.past in
    let represents : PartsRepresent (model_of inside).routing (parts_of inside) = c.self.invariant in
    let reach : Reachable s o past = c.reachable.ensures s o past represents.routing.legal.allowed in
    elim c.match-outcome.branch [
      | in-Resumed w ↦ left_by inside _ _ c.args.outcome _ (Resumed w.in-Resumed.revision) _ _ w.outcome-is w.in-Resumed.is w.self-inside-is
          (resized_by inside c.args.outcome (Resumed w.in-Resumed.revision) w.in-Resumed.revision s.replicas _ represents w.in-Resumed.is w.set_desired.ensures
          (c.resizes.ensures.resumed s o past w.in-Resumed.revision
          ∙ ap (λ (n : ℕ). map (resized w.in-Resumed.revision n) (revisions_of s o past)) (most s.replicas (desired s w.in-Resumed.revision past) (reach.desired_most w.in-Resumed.revision))) refl)
      | in-ScaledDown w ↦ left_by inside _ _ c.args.outcome _ (ScaledDown w.in-ScaledDown.revision) _ _ w.outcome-is w.in-ScaledDown.is w.self-inside-is
          (resized_by inside c.args.outcome (ScaledDown w.in-ScaledDown.revision) w.in-ScaledDown.revision 0 _ represents w.in-ScaledDown.is w.set_desired-in-ScaledDown.ensures
          (c.resizes.ensures.scaled_down s o past w.in-ScaledDown.revision) refl)
      | in-Removed w ↦ left_by inside _ _ c.args.outcome _ (Removed w.in-Removed.revision) _ _ w.outcome-is w.in-Removed.is w.self-inside-is
          (removed_by inside c.args.outcome w.in-Removed.revision _ _ represents w.in-Removed.is w.remove.ensures w.drop_list.ensures (c.removes.ensures s o past w.in-Removed.revision))
      | in-Ready w ↦ left_by inside _ _ c.args.outcome _ (Ready w.in-Ready.field-0) _ _ (w.outcome-is ∙ w.in-Ready.is) w.in-Ready.is w.self-inside-is (kept_by inside c.args.outcome (Ready w.in-Ready.field-0) represents w.in-Ready.is (c.keeps.ensures s o past (entry.Outcome (Ready w.in-Ready.field-0)) refl) refl)
      | in-Switched w ↦ left_by inside _ _ c.args.outcome _ (Switched w.in-Switched.field-0) _ _ (w.outcome-is ∙ w.in-Switched.is) w.in-Switched.is w.self-inside-is (kept_by inside c.args.outcome (Switched w.in-Switched.field-0) represents w.in-Switched.is (c.keeps.ensures s o past (entry.Outcome (Switched w.in-Switched.field-0)) refl) refl)
      | in-Promoted w ↦ left_by inside _ _ c.args.outcome _ (Promoted w.in-Promoted.field-0) _ _ (w.outcome-is ∙ w.in-Promoted.is) w.in-Promoted.is w.self-inside-is (kept_by inside c.args.outcome (Promoted w.in-Promoted.field-0) represents w.in-Promoted.is (c.keeps.ensures s o past (entry.Outcome (Promoted w.in-Promoted.field-0)) refl) refl)
    ]

-- the core after the outcome
core_after : (s : Strategy) (past : List Entry) (old new : Core) (x : Outcome) (at : ℕ) → CoreRepresents s old past → at ≡ moment past → (is_step x ≡ true → first_promotion s past ≡ Some x)
    → ((t : Strategy) (before : List Entry) → CoreRepresents t old before → at ≡ moment before → first_promotion t before ≡ Some x → CoreRepresents t new (entry.Outcome x ∷ before))
    → (is_step x ≡ false → new ≡ old)
    → ((t : Strategy) (before : List Entry) (e : Entry) → is_neutral e ≡ true → CoreRepresents t old before → CoreRepresents t old (e ∷ before))
    → CoreRepresents s new (entry.Outcome x ∷ past)
core_after s past old new x at represents now first next other neutral = go (is_step x) refl where
  go : (b : Bool) → is_step x ≡ b → CoreRepresents s new (entry.Outcome x ∷ past)
  go true step = next s past represents now (first step)
  go false none = subst (λ (k : Core). CoreRepresents s k (entry.Outcome x ∷ past)) (sym (other none)) (neutral s past (entry.Outcome x) (no_step_is_neutral x none) represents)

last_same : (x : Outcome) (past : List Entry) → last_number (entry.Outcome x ∷ past) ≡ last_number past
last_same x past = refl

-- the running state after the outcome
carried : (g : Over) (c : After-push_reserved g) → Carries (model_of c.self.inside).routing (parts_of c.self.inside) (entry.Outcome c.args.outcome)
    (record (parts_of c.self.inside) { core = c.apply.new.self; roster = c.match-outcome.self-inside.roster; deadlines = c.record.new.self })
carried g c =
    let inside = c.self.inside in
    let b = (model_of inside).routing in
    let x = c.args.outcome in
    let represents : PartsRepresent b (parts_of inside) = c.self.invariant in
    let may : is_allowed b.strategy b.opening (entry.Outcome x) b.past ≡ true = allowed_inside _ _ (entry.Outcome x) c.self.view_is c.requires.allowed in
    let first : is_step x ≡ true → first_promotion b.strategy b.past ≡ Some x = allowed_is_next b.strategy b.opening b.past x represents.routing.legal.allowed may in
    let left = followed g c in
    let core : c.match-outcome.self-inside.core ≡ inside.core = ap (λ (i : Inside _). i.core) left.rest in
    let at : c.match-outcome.self-inside.moment ≡ inside.moment = ap (λ (i : Inside _). i.moment) left.rest in
    let next : (t : Strategy) (before : List Entry) → CoreRepresents t c.match-outcome.self-inside.core before → c.match-outcome.self-inside.moment ≡ moment before → first_promotion t before ≡ Some x
    → CoreRepresents t c.apply.new.self (entry.Outcome x ∷ before) =
    subst (λ (y : Outcome). (t : Strategy) (before : List Entry) → CoreRepresents t c.match-outcome.self-inside.core before → c.match-outcome.self-inside.moment ≡ moment before → first_promotion t before ≡ Some y
    → CoreRepresents t c.apply.new.self (entry.Outcome y ∷ before)) left.same c.apply.ensures.next in
    let other : is_step x ≡ false → c.apply.new.self ≡ c.match-outcome.self-inside.core =
    subst (λ (y : Outcome). is_step y ≡ false → c.apply.new.self ≡ c.match-outcome.self-inside.core) left.same c.apply.ensures.other in
    record {
      allowed = may;
      plain = record { requests = refl; numbers = refl; entered = refl; calls = λ i. refl };
      core = core_after b.strategy b.past c.match-outcome.self-inside.core c.apply.new.self x c.match-outcome.self-inside.moment
          (subst (λ (k : Core). CoreRepresents b.strategy k b.past) (sym core) represents.core) (at ∙ represents.moment) first next other
          (subst (λ (k : Core). (t : Strategy) (before : List Entry) (e : Entry) → is_neutral e ≡ true → CoreRepresents t k before → CoreRepresents t k (e ∷ before)) (sym core) c.neutral.ensures);
      revisions = left.follows.revisions;
      replicas = left.follows.replicas;
      last = left.follows.last ∙ represents.last;
      deadlines = c.record.ensures b.strategy b.past represents.deadlines (c.selectors.ensures b.strategy b.past represents.core) (scaled_inside _ _ _ c.self.view_is c.newest_is_scaled-newest_is_scaled.ensures) represents.moment;
      moment = represents.moment;
      given = refl;
      open_is = refl;
    }

-- the history after the outcome
pushed : (g : Over) (c : After-push_reserved g) → c.push_reserved.new.self ≡ record c.self.inside.history { past = entry.Outcome c.args.outcome ∷ c.self.inside.history.past; spare = c.push_reserved.new.self.spare }
pushed g c = c.push_reserved.ensures.entry ∙ ap (λ (h : Kept). record h { past = entry.Outcome c.args.outcome ∷ h.past; spare = c.push_reserved.new.self.spare }) (ap (λ (i : Inside _). i.history) (followed g c).rest)

pub invariant_of-self : goal.invariant_of-self
invariant_of-self g c =
    let inside = c.self.inside in
    let left = followed g c in
    subst (λ (i : Inside _). PartsRepresent (model_of (record i { core = c.apply.new.self; history = c.push_reserved.new.self })).routing (parts_of (record i { core = c.apply.new.self; history = c.push_reserved.new.self })))
    (sym left.rest)
    (represents_recorded (model_of inside).routing (parts_of inside) (entry.Outcome c.args.outcome) _ c.match-outcome.self-inside.lists c.push_reserved.new.self inside.history c.self.invariant (carried g c) refl
    (pushed g c) left.follows.lists)

pub returns : goal.returns
returns g c =
    let inside = c.self.inside in
    let left = followed g c in
    let less : c.push_reserved.new.self.spare + 1 ≡ inside.history.spare = c.push_reserved.ensures.spare ∙ ap (λ (i : Inside _). i.history.spare) left.rest in
    recorded_left (record inside { deadlines = c.record.new.self; roster = c.match-outcome.self-inside.roster; lists = c.match-outcome.self-inside.lists }) c.match-outcome.self-inside _ c.apply.new.self c.push_reserved.new.self _ (sym left.rest)
    (recorded_by (model_of inside).routing (parts_of inside) _ _ (entry.Outcome c.args.outcome) _ c.match-outcome.self-inside.lists c.push_reserved.new.self inside.history c.self.invariant (carried g c) c.self.view_is refl refl (pushed g c) less left.follows.lists)
