-- A family of sixty-four lists of nodes with their values, as callers see it.
use Rattle.std.specs.Prelude.{◌≡◌, ℕ, suc, ◌<◌, ◌≤◌, Bool, not, ◌==◌, if◌then◌else◌, List, [], ◌∷◌, ◌++◌, map, filter, replicate, length, get_or, slice_get, Option, Some, None, is_some, option_map, option_and_then}
use Rattle.core.specs.Option.{option_or}
use Rattle.std.specs.Borrow.{Bor}
use Rattle.bg_openlist.specs.Distinct.{Distinct}
use Rattle.bg_openlist.specs.Tables.{table}

-- the number of nodes, and each list from its front as pairs of a node and its value
pub record Family (X : Type 0) : Type 0 where
  pub nodes : ℕ
  pub lists : List (List (ℕ × X))

module _ {X : Type 0} where
  -- all nodes are free
  abbrev pub empty_family : ℕ → Family X
  empty_family n = record { nodes = n; lists = replicate 64 [] }

  -- the list of this number, empty from 64 on
  abbrev pub list_at : Family X → ℕ → List (ℕ × X)
  list_at f l = get_or f.lists l []

  -- the value of node k in one list
  abbrev pub value_in : List (ℕ × X) → ℕ → Option X
  value_in [] k = None
  value_in (p ∷ ps) k = if p.0 == k then Some p.1 else value_in ps k

  -- the list that has node k, with its value; the given lists have the numbers from l on
  abbrev pub place_among : List (List (ℕ × X)) → ℕ → ℕ → Option (ℕ × X)
  place_among [] l k = None
  place_among (xs ∷ rest) l k = option_or (option_map (λ x. (l, x)) (value_in xs k))
      (place_among rest (suc l) k)

  -- for each node its list and its value, or None if it is free
  abbrev pub places : Family X → List (Option (ℕ × X))
  places f = table (place_among f.lists 0) 0 f.nodes

  -- the list and the value of one node
  abbrev pub place_of : Family X → ℕ → Option (ℕ × X)
  place_of f k = get_or (places f) k None

  -- the node is in some list
  abbrev pub is_linked : Family X → ℕ → Bool
  is_linked f k = is_some (place_of f k)

  -- the list in which the node is
  abbrev pub list_of : Family X → ℕ → Option ℕ
  list_of f k = option_map (λ p. p.0) (place_of f k)

  -- the value of the node
  abbrev pub value_of : Family X → ℕ → Option X
  value_of f k = option_map (λ p. p.1) (place_of f k)

  -- the pair that follows the node k in one list
  abbrev pub following : List (ℕ × X) → ℕ → Option (ℕ × X)
  following [] k = None
  following (p ∷ ps) k = if p.0 == k then slice_get ps 0 else following ps k

  -- the pair that follows a node; None if the node is the last one or free
  abbrev pub next_of : Family X → ℕ → Option (ℕ × X)
  next_of f k = option_and_then (λ l. following (list_at f l) k) (list_of f k)

  -- the list with the node k left out
  abbrev pub without_node : ℕ → List (ℕ × X) → List (ℕ × X)
  without_node k = filter (λ p. not (p.0 == k))

  -- the nodes of all the lists, one list after another
  abbrev pub linked_nodes : List (List (ℕ × X)) → List ℕ
  linked_nodes [] = []
  linked_nodes (xs ∷ rest) = map (λ p. p.0) xs ++ linked_nodes rest

  -- the pair in an answer, with the borrowed value
  abbrev pub shown : Option (ℕ × Bor X) → Option (ℕ × X)
  shown r = option_map (λ p. (p.0, p.1.now)) r

  -- the invariant of a family of lists
  pub record IsFamily (f : Family X) : Type 0 where
    pub size : (1 ≤ f.nodes) × (f.nodes ≤ 2048)
    pub count : (length f.lists ≡ 64) × (length (places f) ≡ f.nodes)
    -- no node occurs twice, in one list or in two
    pub once : Distinct (linked_nodes f.lists)
    -- a node's place agrees with the list that has it
    pub found : (l k : ℕ) (x : X) → value_in (list_at f l) k ≡ Some x → place_of f k ≡ Some (l, x)
    pub held : (l k : ℕ) (x : X) → place_of f k ≡ Some (l, x) → (l < 64) × (k < f.nodes)
        × (value_in (list_at f l) k ≡ Some x)
