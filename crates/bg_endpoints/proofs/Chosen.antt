-- Lemmas on the port that is chosen.
use Rattle.std.proofs.Common.{◌≡◌, ℕ, Bool, true, false, cond, ◌&&◌, List, [], ◌∷◌, Option, Some, None, IfSome, refl, drop, take}
use Rattle.std.specs.List.{find}
use Rattle.std.specs.Option.{option_or}
use Rattle.bg_endpoints.specs.Choices.{chosen, chosen_by, first_by, free_criteria, is_new, passes}
use Rattle.bg_endpoints.specs.Lists.{listed, only_list, place_of}
use Rattle.bg_endpoints.specs.declared.port_lists.PortList.{PortList}
use Rattle.bg_endpoints.specs.declared.table.Choice.{Choice}
use Rattle.bg_endpoints.specs.declared.table.Choice.TheVariants as choice
use Rattle.bg_endpoints.specs.declared.table.Table.{Table}
use Rattle.bg_endpoints.specs.declared.table.Criteria.{Criteria}

-- what is found passes the test
found : (p : ℕ → Bool) (xs : List ℕ) → IfSome (find p xs) (λ x. p x ≡ true)
found p [] = tt
found p (x ∷ xs) =
    (elim (p x) as (λ b. p x ≡ b → IfSome (cond b (Some x) (find p xs)) (λ y. p y ≡ true)) [
      | true ↦ λ e. e
      | false ↦ λ e. found p xs
    ]) refl

either : (Q : ℕ → Type 0) (a b : Option ℕ) → IfSome a Q → IfSome b Q → IfSome (option_or a b) Q
either Q None b h k = k
either Q (Some x) b h k = h

weaken : (P Q : ℕ → Type 0) → ((x : ℕ) → P x → Q x) → (o : Option ℕ) → IfSome o P → IfSome o Q
weaken P Q f None h = tt
weaken P Q f (Some x) h = f x h

first_of_four : (a b c d : Bool) → (a && b && c && d) ≡ true → a ≡ true
first_of_four true b c d h = refl
first_of_four false b c d h = h

module _ (t : Table) (ticket : ℕ) (tried : List ℕ) where
  abbrev new : ℕ → Type 0
  new port = is_new port tried ≡ true

  -- a port that was tried is not chosen from a list
  first_once : (l : PortList) (criteria : Criteria) → IfSome (first_by t l tried criteria) new
  first_once l criteria =
      let test : ℕ → Bool = passes t l tried criteria in
      let ports = l.ports.items in
      let place = place_of criteria.ticket ports in
      weaken (λ port. test port ≡ true) new
      (λ port h. first_of_four _ _ _ _ h) (first_by t l tried criteria)
      (either (λ port. test port ≡ true) (find test (drop place ports)) (find test (take place ports))
      (found test (drop place ports)) (found test (take place ports)))

  by_once : (now : ℕ) (own : Option PortList) → IfSome (chosen_by t ticket tried now own) new
  by_once now None =
      (elim (is_new ticket tried) as (λ b. is_new ticket tried ≡ b
      → IfSome (cond b (Some ticket) None) (λ port. is_new port tried ≡ true)) [
        | true ↦ λ e. e
        | false ↦ λ e. tt
      ]) refl
  by_once now (Some l) =
      let criteria : Choice → Criteria = λ c. record (free_criteria t ticket now l) { choice = c } in
      let first : Choice → Option ℕ = λ c. first_by t l tried (criteria c) in
      either new (option_or (first choice.Free) (first choice.Unmarked)) (first choice.Any)
      (either new (first choice.Free) (first choice.Unmarked)
      (first_once l (criteria choice.Free)) (first_once l (criteria choice.Unmarked)))
      (first_once l (criteria choice.Any))

  -- a port that was tried is not chosen
  pub chosen_once : (now : ℕ) → IfSome (chosen t ticket tried now) (λ port. is_new port tried ≡ true)
  chosen_once now = by_once now (only_list ticket (listed t.lists))
