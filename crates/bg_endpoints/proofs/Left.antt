-- A port is left to be dialled if none was tried.
use Rattle.std.proofs.Common.{◌≡◌, ◌≢◌, ℕ, IfNone, Bool, true, false, cond, ◌==◌, ◌||◌, List, [], ◌∷◌, Option, Some, None, refl, sym, ap, ◌∙◌, drop, take, subst}
use Rattle.std.specs.List.{find, list_any}
use Rattle.std.specs.Option.{option_or}
use Rattle.std.proofs.lemmas.Bool.{and_from, eq-eqb, eqb-true, false≢true}
use Rattle.std.proofs.lemmas.List.{take-append-drop}
use Rattle.std.proofs.lemmas.List.Folds.{list_any-append}
use Rattle.std.proofs.lemmas.Option.{none-some}
use Rattle.bg_endpoints.specs.Choices.{chosen, chosen_by, first_by, first_from, free_criteria, passes}
use Rattle.bg_endpoints.specs.Lists.{has_port, is_in_one_list, listed, only_list, place_of}
use Rattle.bg_endpoints.specs.declared.port_lists.PortList.{PortList}
use Rattle.bg_endpoints.specs.declared.table.Choice.TheVariants as choice
use Rattle.bg_endpoints.specs.declared.table.Table.{Table}
use Rattle.bg_endpoints.specs.declared.table.Criteria.{Criteria}

-- one of the elements passes, so one is found
finds : {X : Type 0} (p : X → Bool) (xs : List X) → list_any p xs ≡ true → find p xs ≡ None → ⊥
finds p [] h n = false≢true h
finds p (x ∷ xs) h n =
    (elim (p x) as (λ b. (b || list_any p xs) ≡ true → cond b (Some x) (find p xs) ≡ None → ⊥) [
      | true ↦ λ h n. none-some x (sym n)
      | false ↦ λ h n. finds p xs h n
    ]) h n

some_same : {X : Type 0} (x y : X) → Some x ≡ Some y → x ≡ y
some_same x y h = cc

-- what is found passes
found : {X : Type 0} (p : X → Bool) (xs : List X) (x : X) → find p xs ≡ Some x → p x ≡ true
found p [] x h = absurd (none-some x h)
found p (y ∷ ys) x h =
    (elim (p y) as (λ b. p y ≡ b → cond b (Some y) (find p ys) ≡ Some x → p x ≡ true) [
      | true ↦ λ e h. subst (λ z. p z ≡ true) (some_same y x h) e
      | false ↦ λ e h. found p ys x h
    ]) refl h

either_none : (a b : Option ℕ) → option_or a b ≡ None → (a ≡ None) × (b ≡ None)
either_none None b h = (refl, h)
either_none (Some x) b h = absurd (none-some x (sym h))

-- the elements before a place and from it on are all
wraps : (ticket : ℕ) (test : ℕ → Bool) (ports : List ℕ) → list_any test ports ≡ true
    → first_from ticket test ports ≡ None → ⊥
wraps ticket test ports h n =
    let place = place_of ticket ports in
    let none = either_none (find test (drop place ports)) (find test (take place ports)) n in
    let both : (list_any test (take place ports) || list_any test (drop place ports)) ≡ true =
    sym (list_any-append test (take place ports) (drop place ports))
    ∙ (ap (list_any test) (take-append-drop place ports) ∙ h) in
    (elim (list_any test (take place ports)) as
    (λ b. list_any test (take place ports) ≡ b → (b || list_any test (drop place ports)) ≡ true → ⊥) [
      | true ↦ λ e both. finds test (take place ports) e none.1
      | false ↦ λ e both. finds test (drop place ports) both none.0
    ]) refl both

or_right : (a b : Bool) → b ≡ true → (a || b) ≡ true
or_right true b h = refl
or_right false b h = h

or_first : (a b c : Bool) → a ≡ true → (a || b || c) ≡ true
or_first true b c h = refl
or_first false b c h = absurd (false≢true h)

-- a port of a list that passes a test
one_passes : (ticket : ℕ) (test : ℕ → Bool) (ports : List ℕ) → list_any (λ own. own == ticket) ports ≡ true
    → test ticket ≡ true → list_any test ports ≡ true
one_passes ticket test [] h t = h
one_passes ticket test (x ∷ xs) h t =
    (elim (x == ticket) as (λ b. (x == ticket) ≡ b → (b || list_any (λ own. own == ticket) xs) ≡ true
    → (test x || list_any test xs) ≡ true) [
      | true ↦ λ e h. ap (λ b. b || list_any test xs) (ap test (eqb-true x ticket e) ∙ t)
      | false ↦ λ e h. or_right (test x) _ (one_passes ticket test xs h t)
    ]) refl h

module _ (t : Table) (ticket now : ℕ) where
  -- the ticket's port may be taken, if it is in one list
  ticket_passes : (l : PortList) → is_in_one_list ticket (listed t.lists) ≡ true
      → passes t l [] (record (free_criteria t ticket now l) { choice = choice.Any }) ticket ≡ true
  ticket_passes l one =
      and_from _ _ (and_from _ _ (and_from _ _ refl one)
      (or_first (ticket == ticket) _ _ (eq-eqb ticket ticket refl))) refl

  by_left : (own : Option PortList) → only_list ticket (listed t.lists) ≡ own
      → chosen_by t ticket [] now own ≡ None → ⊥
  by_left None e n = none-some ticket (sym n)
  by_left (Some l) e n =
      let lists = listed t.lists in
      let any : Criteria = record (free_criteria t ticket now l) { choice = choice.Any } in
      let is = (elim (is_in_one_list ticket lists) as
      (λ b. is_in_one_list ticket lists ≡ b → cond b (find (λ o. has_port ticket o) lists) None ≡ Some l
      → (is_in_one_list ticket lists ≡ true) × (find (λ o. has_port ticket o) lists ≡ Some l)) [
        | true ↦ λ one e. (one, e)
        | false ↦ λ one e. absurd (none-some l e)
      ]) refl e in
      let there : has_port ticket l ≡ true = found (λ o. has_port ticket o) lists l is.1 in
      let none = either_none _ (first_by t l [] any) n in
      wraps ticket (passes t l [] any) l.ports.items
      (one_passes ticket (passes t l [] any) l.ports.items there
      (ticket_passes l is.0)) none.1

  -- with no port tried, one is chosen
  pub one_left : chosen t ticket [] now ≡ None → ⊥
  one_left n = by_left (only_list ticket (listed t.lists)) refl n

  -- if no port is chosen, one was tried
  pub left : (tried : List ℕ) (o : Option ℕ) → o ≡ chosen t ticket tried now → IfNone o (tried ≢ [])
  left tried None n = λ e. one_left (subst (λ (l : List ℕ). chosen t ticket l now ≡ None) e (sym n))
  left tried (Some x) n = tt
