-- A deploy that has no fault is allowed.
use Rattle.std.proofs.Common.{◌≡◌, ℕ, ◌+◌, Bool, true, false, not, cond, is_none, ◌==◌, ◌&&◌, nat_lt, nat_le, List, length, unwrap_or, Option, Some, None, Ok, Err, refl, ap, ◌∙◌, sym, arith}
use Rattle.std.proofs.lemmas.Bool.Decides.{nat_tests}
use Rattle.bg_strategy.specs.Label.{is_label}
use Rattle.bg_revisions.specs.PortLists.{are_ports}
use Rattle.bg_revisions.specs.Rosters.{well_formed}
use Rattle.bg_revisions.specs.declared.revision_fault.RevisionFault.TheVariants.{BadName, BadPorts, SameTemplate, PortsDiffer, TooManyRevisions}
use Rattle.bg_history.specs.Allowed.{is_allowed, is_template, fits_namesake}
use Rattle.bg_history.specs.declared.entry.Entry.TheVariants as event
use Rattle.bg_history.specs.Sizes.{existing, last_number}
use Rattle.bg_history.specs.Templates.{template, has_ports, namesake}
use Rattle.bg_history.specs.AttemptBounds.{newest_of}
use Rattle.bg_history_laws.specs.Answers.{namesake_answer, template_answer}
use Rattle.bg_history.specs.declared.control.Control.TheVariants.{Deploy}
use Rattle.bg_rollout.specs.declared.control_fault.ControlFault.TheVariants as fault
use Rattle.bg_rollout.specs.Refusals.{event_fault, fault_in, has_no_place}
use Rattle.bg_rollout.specs.Routing.{Routing}
use Rattle.bg_rollout.proofs.ControlEvents.Events.{neither, passed}
use Rattle.bg_rollout.proofs.OpenRequests.Requests.{and_both, eq_refl}

-- a deploy whose name, ports and template have no fault
record Fits (b : Routing) (name ports : List ℕ) : Type 0 where
  pub well_formed : (is_label name && are_ports b.strategy.replicas ports) ≡ true
  pub other : not (is_template name ports (template b.opening (newest_of b.past) b.past)) ≡ true
  pub owned : fault_in fault.Revision (namesake_answer b.opening ports (namesake b.opening name b.past) b.past) ≡ None
  pub place : has_no_place b name ≡ false

fits : (b : Routing) (name ports : List ℕ) → event_fault b (Deploy name ports) ≡ None → Fits b name ports
fits b name ports h =
    let one = neither (fault_in fault.Revision (well_formed b.strategy.replicas name ports)) _ h in
    let two = neither (fault_in fault.Revision (template_answer b.opening (newest_of b.past) name ports b.past)) _ one.1 in
    let template_fits = differs (is_template name ports (template b.opening (newest_of b.past) b.past)) two.0 in
    record {
      well_formed = formed (is_label name) (are_ports b.strategy.replicas ports) one.0;
      other = template_fits.0;
      owned = template_fits.1;
      place = (passed (has_no_place b name) (fault.Revision TooManyRevisions) None two.1).0;
    }
  where
    formed : (l p : Bool) → fault_in fault.Revision (cond l (cond p (Ok (tt {0})) (Err BadPorts)) (Err BadName)) ≡ None → (l && p) ≡ true
    formed true true h = refl
    formed true false h = absurd (cc)
    formed false p h = absurd (cc)

    differs : (t : Bool) → fault_in fault.Revision (cond t (Err SameTemplate) (namesake_answer b.opening ports (namesake b.opening name b.past) b.past)) ≡ None
        → (not t ≡ true) × (fault_in fault.Revision (namesake_answer b.opening ports (namesake b.opening name b.past) b.past) ≡ None)
    differs true h = absurd (cc)
    differs false h = (refl, h)

allowed : (b : Routing) (r : ℕ) (name ports : List ℕ) → Fits b name ports → fits_namesake b.opening (namesake b.opening name b.past) r ports b.past ≡ true
    → is_allowed b.strategy b.opening (event.Deploy r name ports) b.past ≡ true
allowed b r name ports fit owned =
    and_both _ (fits_namesake b.opening (namesake b.opening name b.past) r ports b.past) (and_both _ (not (is_template name ports (template b.opening (newest_of b.past) b.past))) fit.well_formed fit.other) owned

-- the deploy of an existing revision is allowed
allowed_known : (b : Routing) (r : ℕ) (name ports : List ℕ) → event_fault b (Deploy name ports) ≡ None → namesake b.opening name b.past ≡ Some r
    → is_allowed b.strategy b.opening (event.Deploy r name ports) b.past ≡ true
allowed_known b r name ports h known =
    let fit = fits b name ports h in
    let has = same_ports (has_ports ports (template b.opening r b.past)) (ap (λ (q : Option ℕ). fault_in fault.Revision (namesake_answer b.opening ports q b.past)) (sym known) ∙ fit.owned) in
    allowed b r name ports fit
    (ap (λ (q : Option ℕ). fits_namesake b.opening q r ports b.past) known ∙ and_both (r == r) (has_ports ports (template b.opening r b.past)) (eq_refl r) has)
  where
    same_ports : (t : Bool) → fault_in fault.Revision (cond t (Ok (Some r)) (Err PortsDiffer)) ≡ None → t ≡ true
    same_ports true h = refl
    same_ports false h = absurd (cc)

-- the deploy of a new revision is allowed
allowed_new : (b : Routing) (name ports : List ℕ) → event_fault b (Deploy name ports) ≡ None → namesake b.opening name b.past ≡ None
    → is_allowed b.strategy b.opening (event.Deploy (last_number b.past + 1) name ports) b.past ≡ true
allowed_new b name ports h unknown =
    let fit = fits b name ports h in
    let room : nat_le 64 (length (existing b.past)) ≡ false = ap (λ (q : Option ℕ). is_none q && nat_le 64 (length (existing b.past))) (sym unknown) ∙ fit.place in
    let next = last_number b.past + 1 in
    allowed b next name ports fit
    (ap (λ (q : Option ℕ). fits_namesake b.opening q next ports b.past) unknown
    ∙ and_both (next == next) (nat_lt (length (existing b.past)) 64) (eq_refl next) (below (length (existing b.past)) room))
  where
    below : (n : ℕ) → nat_le 64 n ≡ false → nat_lt n 64 ≡ true
    below n h = grind (arith, nat_tests)

-- the deploy of the revision that has the name, or of a new one if none has, is allowed
pub allowed_deploy : (b : Routing) (found : Option ℕ) (name ports : List ℕ) → event_fault b (Deploy name ports) ≡ None → found ≡ namesake b.opening name b.past
    → is_allowed b.strategy b.opening (event.Deploy (unwrap_or found (last_number b.past + 1)) name ports) b.past ≡ true
allowed_deploy b (Some r) name ports h is = allowed_known b r name ports h (sym is)
allowed_deploy b None name ports h is = allowed_new b name ports h (sym is)
