-- Each open request is at a revision that exists and is scaled.
use Rattle.std.proofs.Common.{◌≡◌, ℕ, Bool, true, false, not, cond, ◌==◌, ◌&&◌, nat_lt, nat_le, List, [], ◌∷◌, map, filter, Some, None, is_some, is_none, refl, arith, sym, subst, ◌∙◌}
use Rattle.std.specs.List.{list_all}
use Rattle.std.proofs.lemmas.List.Folds.{list_all-append}
use Rattle.std.proofs.lemmas.Bool.Decides.{nat_tests}
use Rattle.bg_strategy.specs.declared.strategy.Strategy.{Strategy}
use Rattle.bg_revisions.specs.declared.revision.Service.{Service}
use Rattle.bg_revisions.specs.declared.revision.Service.TheVariants as service
use Rattle.bg_history.specs.declared.entry.Entry.{Entry}
use Rattle.bg_history.specs.declared.entry.Entry.TheVariants.{Enter, Leave, Outcome}
use Rattle.bg_history.specs.declared.entry.Outcome.TheVariants.{ScaledDown}
use Rattle.bg_history.specs.Kept.{Opening}
use Rattle.bg_history.specs.Selections.{active_of, preview_of}
use Rattle.bg_history.specs.Sizes.{is_scaled, available}
use Rattle.bg_history.specs.Requests.{Request, open_requests, open_at, held_by, request_numbers}
use Rattle.bg_history.specs.Deadlines.{exists_in, is_empty}
use Rattle.bg_history.specs.Allowed.{selection, has_value, port_of, may_enter}
use Rattle.bg_history.specs.Steps.{all_allowed}
use Rattle.bg_history_laws.specs.Reachable.{exists_scaled}
use Rattle.bg_history_laws.proofs.Tests.{and_parts, and_both, equal_numbers}
use Rattle.bg_history_laws.proofs.Reached.Allowing.{allowed_now, allowed_before, scaled_down}
use Rattle.bg_history_laws.proofs.Reached.Staying.{stays-ScaledDown, stays}
use Rattle.bg_history_laws.proofs.Reached.Selected.{SelectedScaled, selected_scaled, selected_scaled-preview}
use Rattle.bg_history_laws.proofs.Lists.{all_filter, all_weaker}

-- if no request is at r and all pass p, all pass a test q that p implies at each other revision
all_elsewhere : (p q : Request → Bool) (r : ℕ) → ((x : Request) → (r == x.revision) ≡ false → p x ≡ true → q x ≡ true) → (xs : List Request)
    → is_empty (map (λ x. x.number) (filter (λ x. x.revision == r) xs)) ≡ true → list_all p xs ≡ true → list_all q xs ≡ true
all_elsewhere p q r f [] none h = refl
all_elsewhere p q r f (x ∷ xs) none h =
    let both = and_parts (p x) (list_all p xs) h in
    go (x.revision == r) refl none both.0 (λ n. all_elsewhere p q r f xs n both.1) where
      go : (b : Bool) → (x.revision == r) ≡ b → is_empty (map (λ x. x.number) (cond b (x ∷ filter (λ x. x.revision == r) xs) (filter (λ x. x.revision == r) xs))) ≡ true
          → p x ≡ true → (is_empty (map (λ x. x.number) (filter (λ x. x.revision == r) xs)) ≡ true → list_all q xs ≡ true) → list_all q (x ∷ xs) ≡ true
      go true is none here rest = absurd (cc)
      go false is none here rest = and_both (q x) (list_all q xs) (f x (grind (arith, nat_tests)) here) (rest none)

-- a request enters at the active or the preview revision
entered : (s : Strategy) (service : Service) (r : ℕ) (before : List Entry) → SelectedScaled s before → has_value r (selection s service before) ≡ true → exists_scaled s r before ≡ true
entered s service.Active r before h is = subst (λ (k : ℕ). exists_scaled s k before ≡ true) (equal_numbers (active_of before) r is) h.active
entered s service.Preview r before h is = go (is_some s.preview_service) is where
  go : (b : Bool) → has_value r (cond b (Some (preview_of before)) None) ≡ true → exists_scaled s r before ≡ true
  go true is = subst (λ (k : ℕ). exists_scaled s k before ≡ true) (equal_numbers (preview_of before) r is) (selected_scaled-preview s before h)
  go false is = absurd (cc)

-- a request that may enter gets the active or the preview revision
may_enter-selected : (s : Strategy) (o : Opening) (seat : ℕ) (service : Service) (number r port : ℕ) (before : List Entry) → may_enter s o seat service number r port before ≡ true
    → has_value r (selection s service before) ≡ true
may_enter-selected s o seat service number r port before h =
    (and_parts (nat_lt seat o.seats && is_none (held_by seat before)) (has_value r (selection s service before))
    (and_parts _ (nat_le 1 (available r before))
    (and_parts _ (list_all (λ n. nat_lt n number) (request_numbers before))
    (and_parts _ (has_value port (port_of o r number before)) h).0).0).0).1

-- in each past whose entries were allowed, each open request is at a revision that exists and is scaled
pub open_scaled : (s : Strategy) (o : Opening) (past : List Entry) → all_allowed s o past ≡ true → list_all (λ q. exists_scaled s q.revision past) (open_requests past) ≡ true
open_scaled s o [] a = refl
open_scaled s o (Enter seat service number r port ∷ before) a =
    let earlier = allowed_before s o (Enter seat service number r port) before a in
    let selected = may_enter-selected s o seat service number r port before (allowed_now s o (Enter seat service number r port) before a) in
    let new : Request = record { seat = seat; number = number; revision = r; port = port } in
    list_all-append (λ q. exists_scaled s q.revision before) (open_requests before) (new ∷ [])
    ∙ and_both (list_all (λ q. exists_scaled s q.revision before) (open_requests before)) (exists_scaled s r before && true) (open_scaled s o before earlier)
    (and_both (exists_scaled s r before) true (entered s service r before (selected_scaled s o before earlier) selected) refl)
open_scaled s o (Leave seat number r ∷ before) a =
    all_filter (λ q. exists_scaled s q.revision before) (λ q. not (q.number == number)) (open_requests before) (open_scaled s o before (allowed_before s o (Leave seat number r) before a))
open_scaled s o (Outcome (ScaledDown r) ∷ before) a =
    all_elsewhere (λ q. exists_scaled s q.revision before) (λ q. exists_scaled s q.revision (Outcome (ScaledDown r) ∷ before)) r
    (λ q other. stays-ScaledDown s q.revision r before other) (open_requests before)
    (scaled_down s r before (allowed_now s o (Outcome (ScaledDown r)) before a)).empty
    (open_scaled s o before (allowed_before s o (Outcome (ScaledDown r)) before a))
open_scaled s o (e ∷ before) a =
    all_weaker (λ q. exists_scaled s q.revision before) (λ q. exists_scaled s q.revision (e ∷ before)) (λ q. stays s o q.revision e before (allowed_now s o e before a) refl)
    (open_requests before) (open_scaled s o before (allowed_before s o e before a))

-- if all requests are at revisions that pass a test, none is at one that fails it
none_at : (t : ℕ → Bool) (r : ℕ) (xs : List Request) → t r ≡ false → list_all (λ x. t x.revision) xs ≡ true → map (λ x. x.number) (filter (λ x. x.revision == r) xs) ≡ []
none_at t r [] fails h = refl
none_at t r (x ∷ xs) fails h =
    let both = and_parts (t x.revision) (list_all (λ x. t x.revision) xs) h in
    go (x.revision == r) refl both.0 (none_at t r xs fails both.1) where
      go : (b : Bool) → (x.revision == r) ≡ b → t x.revision ≡ true → map (λ x. x.number) (filter (λ x. x.revision == r) xs) ≡ []
          → map (λ x. x.number) (cond b (x ∷ filter (λ x. x.revision == r) xs) (filter (λ x. x.revision == r) xs)) ≡ []
      go true is here rest =
          let passes : t r ≡ true = subst (λ (k : ℕ). t k ≡ true) (equal_numbers x.revision r is) here in
          let never : true ≡ false = sym passes ∙ fails in absurd (cc)
      go false is here rest = rest

-- so no request is open at a revision that isn't scaled
pub unscaled_empty : (s : Strategy) (o : Opening) (r : ℕ) (past : List Entry) → all_allowed s o past ≡ true → is_scaled s r past ≡ false → open_at r past ≡ []
unscaled_empty s o r past a unscaled =
    none_at (λ q. is_scaled s q past) r (open_requests past) unscaled
    (all_weaker (λ q. exists_scaled s q.revision past) (λ q. is_scaled s q.revision past) (λ q h. (and_parts (exists_in q.revision past) (is_scaled s q.revision past) h).1)
    (open_requests past) (open_scaled s o past a))
