-- A state says of its revisions what its past says.
use Rattle.std.proofs.Common.{◌≡◌, ℕ, suc, Bool, true, false, cond, ◌||◌, ◌==◌, List, [], ◌∷◌, length, map, Option, Some, None, is_some, IsTrue, refl, sym, ap, ◌∙◌}
use Rattle.std.specs.List.{list_any, list_all}
use Rattle.bg_strategy.specs.declared.strategy.Strategy.{Strategy}
use Rattle.bg_history.specs.declared.entry.Entry.{Entry}
use Rattle.bg_history.specs.Deadlines.{deadline, exists_in}
use Rattle.bg_history.specs.Kept.{Opening, Template}
use Rattle.bg_history.specs.Requests.{open_requests, open_at}
use Rattle.bg_history.specs.Sizes.{existing, desired, available}
use Rattle.bg_history.specs.Templates.{template}
use Rattle.bg_history_laws.specs.Reachable.{exists_scaled}
use Rattle.bg_history_laws.specs.Listed.{revision_of, sized}
use Rattle.bg_rollout.specs.PastState.{listed, requests_at}
use Rattle.bg_rollout.specs.State.{revision_state, numbered, deadline_in_state, requests_in_state}
use Rattle.bg_rollout.proofs.OpenRequests.Lists.{list_counts, list_of_past, none_elsewhere}
use Rattle.bg_rollout.proofs.OpenRequests.Requests.{eq_from}

-- each revision has the number by which it is looked up
has_number : (s : Strategy) (o : Opening) (past : List Entry) (r : ℕ) → (revision_of s o past r).number ≡ r
has_number s o past r = go (template o r past) where
  go : (t : Option Template) → (sized r (desired s r past) (available r past) t).number ≡ r
  go None = refl
  go (Some t) = refl

-- an existing revision is found by its number
found : (s : Strategy) (o : Opening) (past : List Entry) (r : ℕ) (xs : List ℕ)
    → numbered r (map (revision_state s o past) xs) ≡ cond (list_any (λ q. q == r) xs) (Some (revision_state s o past r)) None
found s o past r [] = refl
found s o past r (x ∷ xs) = rw (has_number s o past x) (go (x == r) refl (found s o past r xs)) where
  go : (b : Bool) → (x == r) ≡ b
      → numbered r (map (revision_state s o past) xs) ≡ cond (list_any (λ q. q == r) xs) (Some (revision_state s o past r)) None
      → cond b (Some (revision_state s o past x)) (numbered r (map (revision_state s o past) xs))
      ≡ cond (b || list_any (λ q. q == r) xs) (Some (revision_state s o past r)) None
  go true e rest = ap (λ n. Some (revision_state s o past n)) (eq_from x r e)
  go false e rest = rest

pub as_many : (s : Strategy) (o : Opening) (past : List Entry) (xs : List ℕ) → length (map (revision_state s o past) xs) ≡ length xs
as_many s o past [] = refl
as_many s o past (x ∷ xs) = ap suc (as_many s o past xs)

pub each_revision : (s : Strategy) (o : Opening) (past : List Entry) (xs : List ℕ)
    → map (λ v. v.revision) (map (revision_state s o past) xs) ≡ map (revision_of s o past) xs
each_revision s o past [] = refl
each_revision s o past (x ∷ xs) = ap (λ vs. revision_of s o past x ∷ vs) (each_revision s o past xs)

-- the deadline by number; a revision that doesn't exist has none
pub deadline_told : (s : Strategy) (o : Opening) (past : List Entry) (r : ℕ)
    → (revision_state s o past r).deadline ≡ deadline s r past
    → (IsTrue (is_some (deadline s r past)) → IsTrue (exists_in r past))
    → deadline_in_state (numbered r (map (revision_state s o past) (existing past))) ≡ deadline s r past
deadline_told s o past r by_table exists = ap deadline_in_state (found s o past r (existing past)) ∙ go (exists_in r past) refl (deadline s r past) refl where
  go : (b : Bool) → exists_in r past ≡ b → (d : Option ℕ) → deadline s r past ≡ d
      → deadline_in_state (cond b (Some (revision_state s o past r)) None) ≡ deadline s r past
  go true e d is = by_table
  go false e None is = sym is
  go false e (Some at) is =
      let there : exists_in r past ≡ true = exists (ap is_some is) in
      absurd (cc)

-- the open requests by number; each open request is at an existing revision
pub open_told : (s : Strategy) (o : Opening) (past : List Entry) (r : ℕ)
    → list_all (λ q. exists_scaled s q.revision past) (open_requests past) ≡ true
    → length (requests_in_state (numbered r (map (revision_state s o past) (existing past)))) ≡ length (open_at r past)
open_told s o past r represents = ap (λ v. length (requests_in_state v)) (found s o past r (existing past)) ∙ go (exists_in r past) refl ∙ counted where
  counted : length (requests_at r past) ≡ length (open_at r past)
  counted = sym (ap length (list_of_past s past r represents)) ∙ list_counts s past r represents

  go : (b : Bool) → exists_in r past ≡ b → length (requests_in_state (cond b (Some (revision_state s o past r)) None)) ≡ length (requests_at r past)
  go true e = refl
  go false e = sym (ap (λ qs. length (map listed qs)) (none_elsewhere s past r (open_requests past) e represents))
