-- The effect of an entry on the revisions in the facts.
use Rattle.std.proofs.Common.{◌≡◌, ◌<◌, ◌+◌, ℕ, Bool, true, false, cond, max, ◌==◌, ◌||◌, nat_lt, List, [], ◌∷◌, ◌++◌, map, find, length, Option, Some, None, is_some, refl, ap, sym, ◌∙◌, arith}
use Rattle.std.specs.List.{list_any}
use Rattle.bg_strategy.specs.declared.strategy.Strategy.{Strategy}
use Rattle.bg_revisions.specs.declared.revision.Revision.{Revision}
use Rattle.bg_revisions.specs.Rosters.{numbered, resized}
use Rattle.bg_history.specs.declared.entry.Entry.{Entry}
use Rattle.bg_history.specs.declared.entry.Entry.TheVariants.{Deploy, Outcome}
use Rattle.bg_history.specs.declared.entry.Outcome.TheVariants.{Resumed}
use Rattle.bg_history.specs.Kept.{Template, Opening}
use Rattle.bg_history.specs.AttemptBounds.{stable_of, newest_of, is_running}
use Rattle.bg_history.specs.Sizes.{existing, last_number, desired, available}
use Rattle.bg_history.specs.Deadlines.{exists_in}
use Rattle.bg_history.specs.Templates.{template, has_ports, namesake}
use Rattle.bg_history.specs.Promotion.{attempts}
use Rattle.bg_history.specs.Allowed.{is_allowed, fits_namesake, may_deploy}
use Rattle.bg_history_laws.specs.Reachable.{Reachable}
use Rattle.bg_history_laws.specs.Listed.{sized, revision_of, revisions_of}
use Rattle.bg_audit.specs.Sizes.{desired as desired_of_listed, desired_in}
use Rattle.bg_audit.proofs.Tests.{and_parts, or_right, equal_itself, equal_numbers}

-- the law of finding, for one number
abbrev pub Finds : Strategy → Opening → List Entry → ℕ → Type 0
Finds s o past r = numbered r (revisions_of s o past) ≡ cond (exists_in r past) (Some (revision_of s o past r)) None

pub sized-desired : (r n m : ℕ) (t : Option Template) → (sized r n m t).desired ≡ n
sized-desired r n m None = refl
sized-desired r n m (Some t) = refl

-- the facts have the number of endpoints that an existing revision wants
pub desired-listed : (s : Strategy) (o : Opening) (past : List Entry) (r : ℕ) → Finds s o past r → exists_in r past ≡ true
    → desired_in r (revisions_of s o past) ≡ desired s r past
desired-listed s o past r finds is =
    ap desired_of_listed (finds ∙ ap (λ b. cond b (Some (revision_of s o past r)) None) is) ∙ sized-desired r (desired s r past) _ (template o r past)

-- a revision whose desired number of endpoints is raised
pub raised-listed : (s : Strategy) (o : Opening) (past : List Entry) (e : Entry) (q n : ℕ) (old new : List Revision)
    → revisions_of s o (e ∷ past) ≡ map (resized q (max n (desired s q past))) (revisions_of s o past)
    → Finds s o past q → exists_in q past ≡ true → old ≡ revisions_of s o past
    → new ≡ map (resized q (max n (desired_in q old))) old → new ≡ revisions_of s o (e ∷ past)
raised-listed s o past e q n old new law finds is old_is new_is =
    new_is ∙ ap (λ xs. map (resized q (max n (desired_in q xs))) xs) old_is
    ∙ ap (λ d. map (resized q (max n d)) (revisions_of s o past)) (desired-listed s o past q finds is) ∙ sym law

some-if : {X : Type 0} (b : Bool) (x : X) → is_some (cond b (Some x) None) ≡ b
some-if true x = refl
some-if false x = refl

-- the facts have a revision if it exists
pub number-listed : (s : Strategy) (o : Opening) (past : List Entry) (r : ℕ) (xs : List Revision) → Finds s o past r → xs ≡ revisions_of s o past
    → is_some (numbered r xs) ≡ exists_in r past
number-listed s o past r xs finds is =
    ap (λ ys. is_some (numbered r ys)) is ∙ ap is_some finds ∙ some-if (exists_in r past) (revision_of s o past r)

-- a number that is found is a member of the list
pub found-member : (p : ℕ → Bool) (q : ℕ) (xs : List ℕ) → find p xs ≡ Some q → list_any (λ x. x == q) xs ≡ true
found-member p q [] h = absurd (cc)
found-member p q (x ∷ xs) h = go (p x) h (found-member p q xs) where
  go : (b : Bool) → cond b (Some x) (find p xs) ≡ Some q → (find p xs ≡ Some q → list_any (λ y. y == q) xs ≡ true) → (x == q) || list_any (λ y. y == q) xs ≡ true
  go true is rest = let e : x ≡ q = cc in rw (e, equal_itself q) refl
  go false is rest = or_right (x == q) (list_any (λ y. y == q) xs) (rest is)

-- a deploy of a revision that doesn't exist has the next number
pub deployed-next : (s : Strategy) (o : Opening) (r : ℕ) (name ports : List ℕ) (past : List Entry) → may_deploy s o r name ports past ≡ true → exists_in r past ≡ false
    → r ≡ last_number past + 1
deployed-next s o r name ports past h fresh = go (namesake o name past) refl (and_parts _ (fits_namesake o (namesake o name past) r ports past) h).1 where
  go : (q : Option ℕ) → namesake o name past ≡ q → fits_namesake o q r ports past ≡ true → r ≡ last_number past + 1
  go None is fits = equal_numbers r (last_number past + 1) (and_parts (r == last_number past + 1) (nat_lt (length (existing past)) 64) fits).0
  go (Some q) is fits =
      let e : q ≡ r = equal_numbers q r (and_parts (q == r) (has_ports ports (template o q past)) fits).0 in
      let there : exists_in q past ≡ true = found-member _ q (existing past) is in
      absurd (cc)

-- an existing number differs from one that doesn't exist
pub other-number : (r q : ℕ) (past : List Entry) → exists_in r past ≡ false → exists_in q past ≡ true → (r == q) ≡ false
other-number r q past fresh there = go (r == q) refl where
  go : (b : Bool) → (r == q) ≡ b → b ≡ false
  go false is = refl
  go true is = let e : r ≡ q = equal_numbers r q is in absurd (cc)

-- the selected revisions exist
pub stable-there : (s : Strategy) (o : Opening) (past : List Entry) → Reachable s o past → exists_in (stable_of past) past ≡ true
stable-there s o past reach = (and_parts (exists_in (stable_of past) past) _ reach.stable).0

-- only the newest revision can be resumed
pub resumed-there : (s : Strategy) (o : Opening) (q : ℕ) (past : List Entry) → Reachable s o past → is_allowed s o (Outcome (Resumed q)) past ≡ true → exists_in q past ≡ true
resumed-there s o q past reach allowed =
    let tried : attempts q past ≡ true = (and_parts (attempts q past) _ (and_parts _ _ (and_parts _ _ allowed).0).0).0 in
    let e : q ≡ newest_of past = equal_numbers q (newest_of past) (and_parts (is_running past) (q == newest_of past) tried).1 in
    rw e reach.newest

-- a new revision is at the end of the list
pub deployed-listed : (s : Strategy) (o : Opening) (past : List Entry) (r : ℕ) (name ports : List ℕ) (old new : List Revision)
    → (last_number past < r → (r == stable_of past) ≡ false → desired s r past ≡ 0 → available r past ≡ 0
    → revisions_of s o (Deploy r name ports ∷ past) ≡ revisions_of s o past ++ record { number = r; name = name; ports = ports; desired = s.preview_replicas; available = 0 } ∷ [])
    → Finds s o past r → Reachable s o past → may_deploy s o r name ports past ≡ true → old ≡ revisions_of s o past → is_some (numbered r old) ≡ false
    → new ≡ old ++ record { number = r; name = name; ports = ports; desired = s.preview_replicas; available = 0 } ∷ []
    → new ≡ revisions_of s o (Deploy r name ports ∷ past)
deployed-listed s o past r name ports old new law finds reach allowed old_is none new_is =
    let fresh : exists_in r past ≡ false = sym (number-listed s o past r old finds old_is) ∙ none in
    let next : r ≡ last_number past + 1 = deployed-next s o r name ports past allowed fresh in
    let above : last_number past < r = omega arith in
    new_is ∙ ap (λ xs. xs ++ record { number = r; name = name; ports = ports; desired = s.preview_replicas; available = 0 } ∷ []) old_is
    ∙ sym (law above (other-number r (stable_of past) past fresh (stable-there s o past reach)) (reach.undeployed_size r above) (reach.undeployed_available r above))
