-- Lemmas about an event that has no fault.
use Rattle.std.proofs.Common.{◌≡◌, ℕ, ◌≤◌, Bool, true, false, cond, nat_lt, nat_le, List, map, max, Option, Some, None, Ok, Err, refl, ap, ◌∙◌, subst, arith}
use Rattle.std.specs.Option.{option_or}
use Rattle.std.specs.Prelude.{IfSome}
use Rattle.std.proofs.lemmas.Bool.Decides.{nat_tests}
use Rattle.bg_strategy.specs.declared.strategy.Strategy.{Strategy}
use Rattle.bg_revisions.specs.declared.revision.Revision.{Revision}
use Rattle.bg_revisions.specs.Rosters.{Listing, numbered, report_of, resized}
use Rattle.bg_revisions.specs.declared.revision_fault.RevisionFault.TheVariants.{MoreThanDesired}
use Rattle.bg_history.specs.declared.entry.Entry.TheVariants as event
use Rattle.bg_history.specs.declared.entry.Entry.{Entry}
use Rattle.bg_history.specs.Kept.{Opening, Template}
use Rattle.bg_history.specs.Sizes.{desired, available}
use Rattle.bg_history.specs.Deadlines.{exists_in}
use Rattle.bg_history.specs.Templates.{template}
use Rattle.bg_history.specs.Allowed.{is_allowed}
use Rattle.bg_history_laws.specs.Listed.{sized, revision_of, revisions_of}
use Rattle.bg_rollout.specs.Refusals.{fault_if}
use Rattle.bg_rollout.specs.Routing.{Routing}
use Rattle.bg_rollout.proofs.OpenRequests.Requests.{and_parts}
use Rattle.bg_rollout.proofs.ControlEvents.Legal.{le_test}

pub neither : {F : Type 0} (x y : Option F) → option_or x y ≡ None → (x ≡ None) × (y ≡ None)
neither None y h = (refl, h)
neither (Some f) y h = absurd (cc)

pub passed : {F : Type 0} (test : Bool) (f : F) (next : Option F) → fault_if test f next ≡ None → (test ≡ false) × (next ≡ None)
passed true f next h = absurd (cc)
passed false f next h = (refl, h)

pub within : (m n : ℕ) → nat_lt m n ≡ false → n ≤ m
within m n h = grind (arith, nat_tests)

-- an allowed report is of an existing revision that wants at least as many endpoints
reported : (b : Routing) (r n : ℕ) → is_allowed b.strategy b.opening (event.Available r n) b.past ≡ true → (exists_in r b.past ≡ true) × (n ≤ desired b.strategy r b.past)
reported b r n h =
    let both = and_parts (exists_in r b.past) (nat_le n (desired b.strategy r b.past)) h in
    (both.0, below n (desired b.strategy r b.past) both.1)
  where
    below : (m n : ℕ) → nat_le m n ≡ true → m ≤ n
    below m n h = grind (arith, nat_tests)

-- the desired and the available endpoints of a revision of a past
pub wants : (s : Strategy) (o : Opening) (past : List Entry) (r : ℕ) → (revision_of s o past r).desired ≡ desired s r past
wants s o past r = go (template o r past) where
  go : (t : Option Template) → (sized r (desired s r past) (available r past) t).desired ≡ desired s r past
  go None = refl
  go (Some t) = refl

pub has : (s : Strategy) (o : Opening) (past : List Entry) (r : ℕ) → (revision_of s o past r).available ≡ available r past
has s o past r = go (template o r past) where
  go : (t : Option Template) → (sized r (desired s r past) (available r past) t).available ≡ available r past
  go None = refl
  go (Some t) = refl

pub is_numbered : (s : Strategy) (o : Opening) (past : List Entry) (r : ℕ) → (revision_of s o past r).number ≡ r
is_numbered s o past r = go (template o r past) where
  go : (t : Option Template) → (sized r (desired s r past) (available r past) t).number ≡ r
  go None = refl
  go (Some t) = refl

-- an existing revision is found
pub found_there : (s : Strategy) (o : Opening) (past : List Entry) (r : ℕ) (revisions : List Revision) → revisions ≡ revisions_of s o past
    → numbered r (revisions_of s o past) ≡ cond (exists_in r past) (Some (revision_of s o past r)) None → exists_in r past ≡ true → numbered r revisions ≡ Some (revision_of s o past r)
found_there s o past r revisions is found exists =
    ap (numbered r) is ∙ found ∙ ap (λ t. cond t (Some (revision_of s o past r)) None) exists

-- so an allowed report succeeds
pub reported_ok : (b : Routing) (revisions : List Revision) (r n : ℕ) → revisions ≡ revisions_of b.strategy b.opening b.past
    → numbered r (revisions_of b.strategy b.opening b.past) ≡ cond (exists_in r b.past) (Some (revision_of b.strategy b.opening b.past r)) None
    → is_allowed b.strategy b.opening (event.Available r n) b.past ≡ true → report_of n (numbered r revisions) ≡ Ok tt
reported_ok b revisions r n is found fits =
    let ok = reported b r n fits in
    ap (report_of n) (found_there b.strategy b.opening b.past r revisions is found ok.0)
    ∙ ap (λ (w : ℕ). cond (nat_le n w) (Ok tt) (Err MoreThanDesired)) (wants b.strategy b.opening b.past r)
    ∙ ap (λ t. cond t (Ok tt) (Err MoreThanDesired)) (le_test n (desired b.strategy r b.past) ok.1)

-- an existing revision that was made to grow wants the greater of its old size and the least one asked for
pub grown : (b : Routing) (r least : ℕ) (old new : Listing) → old.revisions ≡ revisions_of b.strategy b.opening b.past
    → numbered r (revisions_of b.strategy b.opening b.past) ≡ cond (exists_in r b.past) (Some (revision_of b.strategy b.opening b.past r)) None → exists_in r b.past ≡ true
    → IfSome (numbered r old.revisions) (λ v. new ≡ record old { revisions = map (resized r (max least v.desired)) old.revisions })
    → new ≡ record old { revisions = map (resized r (max least (desired b.strategy r b.past))) old.revisions }
grown b r least old new is found exists made =
    subst (λ (x : Option Revision). IfSome x (λ v. new ≡ record old { revisions = map (resized r (max least v.desired)) old.revisions }))
    (found_there b.strategy b.opening b.past r old.revisions is found exists) made
    ∙ ap (λ (n : ℕ). record old { revisions = map (resized r (max least n)) old.revisions }) (wants b.strategy b.opening b.past r)
