-- Lemmas about following the entries of a journal.
use Rattle.std.proofs.Common.{◌≡◌, ◌≤◌, ◌+◌, ℕ, Bool, true, false, not, cond, ◌==◌, ◌&&◌, ◌||◌, nat_lt, nat_le, List, [], ◌∷◌, ◌++◌, length, reverse, take, unwrap_or, Option, Some, None, Result, Ok, Err, is_none, refl, sym, ap, ◌∙◌, subst, arith}
use Rattle.std.specs.Prelude.{slice_get}
use Rattle.std.specs.Option.{option_or}
use Rattle.std.proofs.lemmas.Bool.Decides.{nat_tests}
use Rattle.std.proofs.lemmas.Option.{same_Some, slice_get_within, get_or_from_slice_get}
use Rattle.std.proofs.lemmas.List.{reverse-append, take_all, length-reverse, length-take-le}
use Rattle.std.proofs.Math.Seq.{take-suc}
use Rattle.std.proofs.Math.Numerals.{add-one}
use Rattle.bg_strategy.specs.declared.strategy.Strategy.{Strategy}
use Rattle.bg_strategy.specs.Label.{is_label}
use Rattle.bg_revisions.specs.PortLists.{are_ports}
use Rattle.bg_revisions.specs.Rosters.{well_formed}
use Rattle.bg_revisions.specs.declared.revision_fault.RevisionFault.{RevisionFault}
use Rattle.bg_revisions.specs.declared.revision_fault.RevisionFault.TheVariants.{BadName, BadPorts, SameTemplate, PortsDiffer, NoSuchRevision, MoreThanDesired, TooManyRevisions}
use Rattle.bg_promotion.specs.Answers.{abort_answer, promote_full_answer, is_step}
use Rattle.bg_promotion.specs.declared.faults.AbortFault as abort
use Rattle.bg_promotion.specs.declared.faults.AbortFault.TheVariants as abort_fault
use Rattle.bg_promotion.specs.declared.faults.PromoteFullFault as full
use Rattle.bg_promotion.specs.declared.faults.PromoteFullFault.TheVariants as full_fault
use Rattle.bg_history.specs.declared.entry.Entry.{Entry}
use Rattle.bg_history.specs.declared.entry.Entry.TheVariants.{Deploy, Retry, Enter, Leave, Outcome}
use Rattle.bg_history.specs.declared.entry.Outcome as outcome
use Rattle.bg_history.specs.declared.entry.Outcome.TheVariants.{Ready, Resumed, Switched, Promoted, ScaledDown, Removed}
use Rattle.bg_history.specs.Kept.{Opening}
use Rattle.bg_history.specs.AttemptBounds.{newest_of, is_halt, is_running, is_halted}
use Rattle.bg_history.specs.Attempts.{has_promote_full}
use Rattle.bg_history.specs.Sizes.{existing, last_number}
use Rattle.bg_history.specs.Templates.{template, has_ports, namesake}
use Rattle.bg_history.specs.Allowed.{is_template, fits_namesake, may_deploy, is_allowed}
use Rattle.bg_history.specs.Requests.{open_requests}
use Rattle.bg_history.specs.Promotion.{first_promotion}
use Rattle.bg_history.specs.Steps.{all_allowed, is_settled, with_outcomes, IsLegal}
use Rattle.bg_history_laws.specs.Answers.{template_answer, namesake_answer}
use Rattle.bg_history_laws.specs.Journaled.{is_of_request}
use Rattle.bg_rollout.specs.declared.control_fault.ControlFault.{ControlFault}
use Rattle.bg_rollout.specs.declared.control_fault.ControlFault.TheVariants.{Revision}
use Rattle.bg_rollout.specs.declared.follow_fault.FollowFault.{FollowFault}
use Rattle.bg_rollout.specs.declared.follow_fault.FollowFault.TheVariants as follow
use Rattle.bg_rollout.specs.Refusals.{fault_if, fault_in, refuse, deploy_fault, deployed_number, has_no_place}
use Rattle.bg_rollout.specs.Following.{may_follow, same_outcome, fault_at, first_entries, FollowFaultIs, JournalFaultIs, Resumes}
use Rattle.bg_rollout.specs.Changes.{with_past}
use Rattle.bg_rollout.specs.PastState.{lists_of}
use Rattle.bg_rollout.specs.Routing.{Routing}
use Rattle.bg_rollout.specs.Settling.{Reached}
use Rattle.bg_rollout.specs.State.{state_of}
use Rattle.bg_rollout.proofs.OpenRequests.Requests.{and_parts, eq_from, eq_refl}
use Rattle.bg_rollout.proofs.Settlements.Outcomes.{promotion_allowed, allowed_is_next}

-- what can't hold is false
refuted : (t : Bool) → (t ≡ true → true ≡ false) → t ≡ false
refuted true h = h refl
refuted false h = refl

-- a report that has a fault isn't allowed
pub report_refused : (exists : Bool) (n d : ℕ) (e : ControlFault) → refuse (fault_if (not exists) (Revision NoSuchRevision) (fault_if (nat_lt d n) (Revision MoreThanDesired) None)) ≡ Err e → (exists && nat_le n d) ≡ false
report_refused true n d e h = go (nat_lt d n) refl h where
  go : (t : Bool) → nat_lt d n ≡ t → refuse (cond t (Some (Revision MoreThanDesired)) None) ≡ Err e → nat_le n d ≡ false
  go true is h = grind (arith, nat_tests)
  go false is h = absurd (cc)
report_refused false n d e h = refl

-- a running attempt isn't halted
running_unhalted : (past : List Entry) → is_running past ≡ true → is_halted past ≡ false
running_unhalted [] runs = refl
running_unhalted (Deploy r name ports ∷ before) runs = refl
running_unhalted (Retry ∷ before) runs = refl
running_unhalted (Outcome (Promoted r) ∷ before) runs = refl
running_unhalted (e ∷ before) runs = go (is_halt e) runs (running_unhalted before) where
  go : (halt : Bool) → not halt && is_running before ≡ true → (is_running before ≡ true → is_halted before ≡ false) → halt || is_halted before ≡ false
  go true runs earlier = absurd (cc)
  go false runs earlier = earlier runs

-- an abort that has a fault isn't allowed
pub abort_refused : (past : List Entry) (e : abort.AbortFault) → abort_answer past ≡ Err e → is_running past ≡ false
abort_refused past e h = refuted (is_running past) (λ runs. wrong (is_halted past) (is_running past) (running_unhalted past runs) runs h) where
  wrong : (a b : Bool) → a ≡ false → b ≡ true
      → ◌≡◌ {A = Result (Unit {0}) abort.AbortFault} (cond a (Err abort_fault.AlreadyAborted) (cond b (Ok tt) (Err abort_fault.NothingToAbort))) (Err e) → true ≡ false
  wrong true b x y h = absurd (cc)
  wrong false true x y h = absurd (cc)
  wrong false false x y h = absurd (cc)

-- a full promotion that has a fault isn't allowed
pub full_refused : (past : List Entry) (e : full.PromoteFullFault) → promote_full_answer past ≡ Err e → (is_running past && not (has_promote_full past)) ≡ false
full_refused past e h =
    refuted (is_running past && not (has_promote_full past)) (λ may.
    let both = and_parts (is_running past) (not (has_promote_full past)) may in
    wrong (is_halted past) (is_running past) (has_promote_full past) (running_unhalted past both.0) both.0 both.1 h)
  where
    wrong : (a b c : Bool) → a ≡ false → b ≡ true → not c ≡ true
        → ◌≡◌ {A = Result (Unit {0}) full.PromoteFullFault} (cond a (Err full_fault.Aborted) (cond (not b) (Err full_fault.NothingToPromote) (cond c (Err full_fault.AlreadyFull) (Ok tt)))) (Err e) → true ≡ false
    wrong true b c x y z h = absurd (cc)
    wrong false false c x y z h = absurd (cc)
    wrong false true true x y z h = absurd (cc)
    wrong false true false x y z h = absurd (cc)

-- the name and ports, the template and the number of revisions have no fault
no_fault : (v : Option ℕ) (formed : Result (Unit {0}) RevisionFault) (owned : Result (Option ℕ) RevisionFault) (full : Bool) → formed ≡ Ok tt → owned ≡ Ok v → full ≡ false
    → option_or (fault_in Revision formed) (option_or (fault_in Revision owned) (fault_if full (Revision TooManyRevisions) None)) ≡ None
no_fault v formed owned full is there room = rw (is, there, room) refl

formed_both : (label ports : Bool) → label ≡ true → ports ≡ true → ◌≡◌ {A = Result (Unit {0}) RevisionFault} (cond label (cond ports (Ok tt) (Err BadPorts)) (Err BadName)) (Ok tt)
formed_both label ports is are = rw (is, are) refl

owned_known : (r : ℕ) (newest same : Bool) → not newest ≡ true → same ≡ true
    → ◌≡◌ {A = Result (Option ℕ) RevisionFault} (cond newest (Err SameTemplate) (cond same (Ok (Some r)) (Err PortsDiffer))) (Ok (Some r))
owned_known r true same other is = absurd (cc)
owned_known r false same other is = rw is refl

owned_new : (newest : Bool) → not newest ≡ true → ◌≡◌ {A = Result (Option ℕ) RevisionFault} (cond newest (Err SameTemplate) (Ok None)) (Ok None)
owned_new true other = absurd (cc)
owned_new false other = refl

-- a template that may be deployed has no fault, and the number that a deploy of it gets
record Deploys (b : Routing) (r : ℕ) (name ports : List ℕ) : Type 0 where
  faultless : deploy_fault b name ports ≡ None
  numbered : deployed_number b name ≡ r

deploys : (b : Routing) (r : ℕ) (name ports : List ℕ) → may_deploy b.strategy b.opening r name ports b.past ≡ true → Deploys b r name ports
deploys b r name ports may =
    let fits = and_parts _ (fits_namesake b.opening (namesake b.opening name b.past) r ports b.past) may in
    let other = and_parts _ (not (is_template name ports (template b.opening (newest_of b.past) b.past))) fits.0 in
    let formed = and_parts (is_label name) (are_ports b.strategy.replicas ports) other.0 in
    go (namesake b.opening name b.past) refl fits.1 (formed_both (is_label name) (are_ports b.strategy.replicas ports) formed.0 formed.1) other.1 where
      newest_has : Bool
      newest_has = is_template name ports (template b.opening (newest_of b.past) b.past)

      room : (n : ℕ) → nat_lt n 64 ≡ true → nat_le 64 n ≡ false
      room n h = grind (arith, nat_tests)

      go : (k : Option ℕ) → namesake b.opening name b.past ≡ k → fits_namesake b.opening k r ports b.past ≡ true → well_formed b.strategy.replicas name ports ≡ Ok tt
          → not (is_template name ports (template b.opening (newest_of b.past) b.past)) ≡ true → Deploys b r name ports
      go None is fits formed other =
          let parts = and_parts (r == last_number b.past + 1) (nat_lt (length (existing b.past)) 64) fits in
          record {
            faultless = no_fault None (well_formed b.strategy.replicas name ports) (template_answer b.opening (newest_of b.past) name ports b.past) (has_no_place b name) formed
                (ap (λ k. cond (is_template name ports (template b.opening (newest_of b.past) b.past)) (Err SameTemplate) (namesake_answer b.opening ports k b.past)) is
                ∙ owned_new (is_template name ports (template b.opening (newest_of b.past) b.past)) other)
                (ap (λ k. is_none k && nat_le 64 (length (existing b.past))) is ∙ room (length (existing b.past)) parts.1);
            numbered = ap (λ k. unwrap_or k (last_number b.past + 1)) is ∙ sym (eq_from r (last_number b.past + 1) parts.0);
          }
      go (Some q) is fits formed other =
          let parts = and_parts (q == r) (has_ports ports (template b.opening q b.past)) fits in
          record {
            faultless = no_fault (Some q) (well_formed b.strategy.replicas name ports) (template_answer b.opening (newest_of b.past) name ports b.past) (has_no_place b name) formed
                (ap (λ k. cond (is_template name ports (template b.opening (newest_of b.past) b.past)) (Err SameTemplate) (namesake_answer b.opening ports k b.past)) is
                ∙ owned_known q (is_template name ports (template b.opening (newest_of b.past) b.past)) (has_ports ports (template b.opening q b.past)) other parts.1)
                (ap (λ k. is_none k && nat_le 64 (length (existing b.past))) is);
            numbered = ap (λ k. unwrap_or k (last_number b.past + 1)) is ∙ eq_from q r parts.0;
          }

some_not_none : (x : Option ControlFault) (e : ControlFault) → x ≡ None → x ≡ Some e → true ≡ false
some_not_none None e h k = absurd (cc)
some_not_none (Some y) e h k = absurd (cc)

-- a deploy that has a fault isn't allowed
pub deploy_refused : (b : Routing) (r : ℕ) (name ports : List ℕ) (e : ControlFault) → deploy_fault b name ports ≡ Some e → may_deploy b.strategy b.opening r name ports b.past ≡ false
deploy_refused b r name ports e h =
    refuted (may_deploy b.strategy b.opening r name ports b.past) (λ may. some_not_none (deploy_fault b name ports) e (deploys b r name ports may).faultless h)

-- a deploy with another number isn't allowed
pub number_refused : (b : Routing) (r : ℕ) (name ports : List ℕ) (found : Option ℕ) → found ≡ namesake b.opening name b.past → (unwrap_or found (last_number b.past + 1) == r) ≡ false
    → may_deploy b.strategy b.opening r name ports b.past ≡ false
number_refused b r name ports found is h =
    refuted (may_deploy b.strategy b.opening r name ports b.past) (λ may.
    let same : unwrap_or found (last_number b.past + 1) ≡ r = ap (λ k. unwrap_or k (last_number b.past + 1)) is ∙ (deploys b r name ports may).numbered in
    sym (eq_refl r) ∙ ap (λ k. k == r) (sym same) ∙ h)

-- outcomes that the test finds the same are one
same_is : (x y : outcome.Outcome) → same_outcome x y ≡ true → x ≡ y
same_is (Ready q) (Ready r) h = ap Ready (eq_from q r h)
same_is (Resumed q) (Resumed r) h = ap Resumed (eq_from q r h)
same_is (Switched q) (Switched r) h = ap Switched (eq_from q r h)
same_is (Promoted q) (Promoted r) h = ap Promoted (eq_from q r h)
same_is (ScaledDown q) (ScaledDown r) h = ap ScaledDown (eq_from q r h)
same_is (Removed q) (Removed r) h = ap Removed (eq_from q r h)
same_is x y h = absurd (cc)

same_itself : (x : outcome.Outcome) → same_outcome x x ≡ true
same_itself (Ready q) = eq_refl q
same_itself (Resumed q) = eq_refl q
same_itself (Switched q) = eq_refl q
same_itself (Promoted q) = eq_refl q
same_itself (ScaledDown q) = eq_refl q
same_itself (Removed q) = eq_refl q

-- a step is allowed where it is the next one
pub step_told : (s : Strategy) (o : Opening) (past : List Entry) (next x : outcome.Outcome) → all_allowed s o past ≡ true → is_step x ≡ true → first_promotion s past ≡ Some next
    → same_outcome next x ≡ is_allowed s o (Outcome x) past
step_told s o past next x a step first = go (same_outcome next x) refl where
  go : (t : Bool) → same_outcome next x ≡ t → t ≡ is_allowed s o (Outcome x) past
  go true is = sym (promotion_allowed s o past x (first ∙ ap Some (same_is next x is)))
  go false is =
      sym (refuted (is_allowed s o (Outcome x) past) (λ may.
      let one : next ≡ x = same_Some next x (sym first ∙ allowed_is_next s o past x a may step) in
      sym (same_itself x) ∙ ap (λ (y : outcome.Outcome). same_outcome y x) (sym one) ∙ is))

pub no_step_told : (s : Strategy) (o : Opening) (past : List Entry) (x : outcome.Outcome) → all_allowed s o past ≡ true → is_step x ≡ true → first_promotion s past ≡ None
    → false ≡ is_allowed s o (Outcome x) past
no_step_told s o past x a step none =
    sym (refuted (is_allowed s o (Outcome x) past) (λ may. wrong (first_promotion s past) none (allowed_is_next s o past x a may step)))
  where
    wrong : (y : Option outcome.Outcome) → y ≡ None → y ≡ Some x → true ≡ false
    wrong None h k = absurd (cc)
    wrong (Some y) h k = absurd (cc)

-- an entry of no request changes no open request
pub plain_open : (e : Entry) (past : List Entry) → is_of_request e ≡ false → open_requests (e ∷ past) ≡ open_requests past
plain_open (Enter seat service number r port) past h = absurd (cc)
plain_open (Leave seat number r) past h = absurd (cc)
plain_open e past h = refl

pub followed_parts : (b : Routing) (e : Entry) → may_follow b e ≡ true → (is_of_request e ≡ false) × (is_allowed b.strategy b.opening e b.past ≡ true)
followed_parts b e h = let both = and_parts (not (is_of_request e)) (is_allowed b.strategy b.opening e b.past) h in (isnt (is_of_request e) both.0, both.1) where
  isnt : (t : Bool) → not t ≡ true → t ≡ false
  isnt true h = absurd (cc)
  isnt false h = refl

-- the past with the next entry
pub next_entries : (n : ℕ) (entries : List Entry) (e : Entry) → slice_get entries n ≡ Some e → first_entries (n + 1) entries ≡ e ∷ first_entries n entries
next_entries n entries e is =
    ap (λ k. reverse (take k entries)) (add-one n)
    ∙ ap (λ ys. reverse ys) (take-suc entries n e (slice_get_within entries n e is))
    ∙ ap (λ y. reverse (take n entries ++ y ∷ [])) (get_or_from_slice_get entries n e e is)
    ∙ reverse-append (take n entries) (e ∷ [])

pub all_entries : (n : ℕ) (entries : List Entry) → length entries ≤ n → first_entries n entries ≡ reverse entries
all_entries n entries all = ap (λ ys. reverse ys) (take_all n entries all)

pub length_entries : (n : ℕ) (entries : List Entry) → n ≤ length entries → length (first_entries n entries) ≡ n
length_entries n entries le = length-reverse (take n entries) ∙ length-take-le n entries le

-- the routing after the first n entries
pub record Followed (old now : Routing) (entries : List Entry) (n : ℕ) : Type 0 where
  pub now_is : now ≡ with_past old (first_entries n entries) old.seats
  pub none_open : open_requests (first_entries n entries) ≡ []

-- no entry was followed yet
pub followed_none : (b : Routing) (entries : List Entry) → b.past ≡ [] → b.lists ≡ lists_of b.past → b.running ≡ state_of b.strategy b.opening b.closed b.past → Followed b b entries 0
followed_none b entries fresh lists running = record {
  now_is =
      ap (λ ls. record b { lists = ls }) lists ∙ ap (λ x. record b { lists = lists_of b.past; running = x }) running
      ∙ ap (λ p. with_past b p b.seats) fresh;
  none_open = refl;
}

-- one more entry was followed
pub followed_more : (old now new : Routing) (entries : List Entry) (n : ℕ) (e : Entry) → Followed old now entries n → slice_get entries n ≡ Some e → may_follow now e ≡ true
    → new ≡ with_past now (e ∷ now.past) now.seats → Followed old new entries (n + 1)
followed_more old now new entries n e f there may made =
    let next = next_entries n entries e there in
    record {
      now_is = made ∙ ap (λ (b : Routing). with_past b (e ∷ b.past) b.seats) f.now_is ∙ ap (λ p. with_past old p old.seats) (sym next);
      none_open = ap open_requests next ∙ plain_open e (first_entries n entries) (followed_parts now e may).0 ∙ f.none_open;
    }

-- the journal stops at an entry that isn't followed
pub stops : (old now : Routing) (entries : List Entry) (n : ℕ) (e : Entry) (f : FollowFault) → Followed old now entries n → slice_get entries n ≡ Some e
    → all_allowed now.strategy now.opening now.past ≡ true → FollowFaultIs now e f → JournalFaultIs old.strategy old.opening old.limits entries (fault_at n f)
stops old now entries n e f so there before fault =
    subst (λ (m : Routing). all_allowed m.strategy m.opening m.past ≡ true → FollowFaultIs m e f → JournalFaultIs old.strategy old.opening old.limits entries (fault_at n f)) (sym so.now_is) (by f) before fault where
      at : Routing
      at = with_past old (first_entries n entries) old.seats

      by : (g : FollowFault) → all_allowed at.strategy at.opening at.past ≡ true → FollowFaultIs at e g → JournalFaultIs old.strategy old.opening old.limits entries (fault_at n g)
      by follow.OfRequest before fault = (e, record { entry = there; before = before }, fault)
      by follow.NotAllowed before fault = (e, record { entry = there; before = before }, fault.0, fault.1)
      by follow.OutOfMemory before fault = tt

pub short_past : (old now : Routing) (entries : List Entry) (n : ℕ) → Followed old now entries n → n ≤ length entries → length now.past ≡ n
short_past old now entries n f le = ap (λ (b : Routing). length b.past) f.now_is ∙ length_entries n entries le

-- outcomes change no open request, and each is one more entry
pub open_still : (outcomes : List outcome.Outcome) (past : List Entry) → open_requests (with_outcomes outcomes past) ≡ open_requests past
open_still [] past = refl
open_still (x ∷ earlier) past = open_still earlier past

pub length_still : (outcomes : List outcome.Outcome) (past : List Entry) → length (with_outcomes outcomes past) ≡ length outcomes + length past
length_still [] past = omega arith
length_still (x ∷ earlier) past = omega (arith, length_still earlier past)

-- the rollout is resumed once what is still allowed was recorded
pub resumes : (old from new : Routing) (entries : List Entry) (n : ℕ) → from ≡ with_past old (reverse entries) old.seats → open_requests (reverse entries) ≡ []
    → IsLegal from.strategy from.opening from.closed from.past → Reached from new n → is_settled new.strategy new.past ≡ true → Resumes old entries new
resumes old from new entries n is none legal reached settled =
    subst (λ (m : Routing). IsLegal m.strategy m.opening m.closed m.past → Reached m new n → Resumes old entries new) (sym is) made legal reached where
      made : IsLegal old.strategy old.opening old.closed (reverse entries) → Reached (with_past old (reverse entries) old.seats) new n → Resumes old entries new
      made legal reached = record {
        outcomes = reached.outcomes;
        legal = legal;
        none_open = ap (λ (b : Routing). open_requests b.past) reached.now_is ∙ open_still reached.outcomes (reverse entries) ∙ none;
        follow = reached.follow;
        settled = sym (ap (λ (b : Routing). is_settled b.strategy b.past) reached.now_is) ∙ settled;
        now_is = reached.now_is;
      }

-- and its history has room
pub resumed_room : (old from new : Routing) (entries : List Entry) (n most : ℕ) → from ≡ with_past old (reverse entries) old.seats → Reached from new n → n ≤ 136
    → length entries + 141 ≤ most → old.limits.entries ≡ most → length new.past ≤ new.limits.entries
resumed_room old from new entries n most is reached few room limit =
    let past : length new.past ≡ length reached.outcomes + length from.past = ap (λ (b : Routing). length b.past) reached.now_is ∙ length_still reached.outcomes from.past in
    let first : length from.past ≡ length entries = ap (λ (b : Routing). length b.past) is ∙ length-reverse entries in
    let same : new.limits.entries ≡ old.limits.entries = ap (λ (b : Routing). b.limits.entries) reached.now_is ∙ ap (λ (b : Routing). b.limits.entries) is in
    omega (arith, past, first, same, few, room, limit, reached.count_is)
