-- The layout of the family in the block: cells 0 to 63 are the heads of the lists, and cell 64 + k is node k.
use Rattle.std.specs.Prelude.{◌≡◌, ℕ, ◌-◌, ◌<◌, ◌≤◌, ◌⊎◌, ⊤, List, [], ◌∷◌, ◌++◌, get_or, length, Option, Some, None}
use Rattle.std_alloc.specs.declared.vec.Vec.{Vec}
use Rattle.bg_openlist.specs.Distinct.{Distinct}
use Rattle.bg_openlist.specs.Family.{Family}
use Rattle.bg_openlist.specs.Nodes.{AllLinked, nexts, prevs, tags, values}
use Rattle.bg_openlist.specs.Rings.{Path, walk}
use Rattle.bg_openlist.specs.Tables.{table}
use Rattle.bg_openlist.specs.declared.nodes.Node.{Node}

-- x is in the list
abbrev pub IsIn : ℕ → List ℕ → Type 0
IsIn x [] = ⊥
IsIn x (y ∷ ys) = (x ≡ y) ⊎ IsIn x ys

module _ {X : Type 0} where
  -- cell k is a node of list l and holds a value
  pub record IsNode (tg : List ℕ) (vs : List (Option X)) (l k : ℕ) : Type 0 where
    pub high : 64 ≤ k
    pub list : get_or tg k 0 ≡ l
    pub item : X
    pub held : get_or vs k None ≡ Some item

  -- each of these cells is a node of list l and holds a value
  abbrev pub AreNodes : List ℕ → List (Option X) → ℕ → List ℕ → Type 0
  AreNodes tg vs l [] = ⊤
  AreNodes tg vs l (k ∷ ks) = IsNode tg vs l k × AreNodes tg vs l ks

  -- list l is a ring through its own head
  pub record IsList (nx pv tg : List ℕ) (vs : List (Option X)) (l : ℕ) (ks : List ℕ) : Type 0 where
    pub path : Path nx pv l ks l
    pub once : Distinct ks
    pub nodes : AreNodes tg vs l ks

  -- every list is a ring through its own head; `lists` gives the nodes of each list
  pub record AreLists (nx pv tg : List ℕ) (vs : List (Option X)) (lists : ℕ → List ℕ) : Type 0 where
    pub each : (l : ℕ) → l < 64 → IsList nx pv tg vs l (lists l)
    pub every : (k : ℕ) (x : X) → 64 ≤ k → get_or vs k None ≡ Some x → (get_or tg k 0 < 64)
        × IsIn k (lists (get_or tg k 0))
    pub heads : (l : ℕ) → l < 64 → get_or vs l None ≡ None

  -- the nodes of a list, by the stored links and lengths
  abbrev pub stored_nodes : List (Node X) → List ℕ → ℕ → List ℕ
  stored_nodes ns lens l = walk (nexts ns) (get_or lens l 0) l

  -- a node's number with its value, if it holds one
  abbrev pub pair_at : Option X → ℕ → List (ℕ × X)
  pair_at None k = []
  pair_at (Some x) k = (k - 64, x) ∷ []

  -- the pairs of these nodes
  abbrev pub pairs_of : List (Option X) → List ℕ → List (ℕ × X)
  pairs_of vs [] = []
  pairs_of vs (k ∷ ks) = pair_at (get_or vs k None) k ++ pairs_of vs ks

  -- each list as a caller sees it
  abbrev pub seen_of : List (Node X) → List ℕ → List (List (ℕ × X))
  seen_of ns lens = table (λ l. pairs_of (values ns) (stored_nodes ns lens l)) 0 64

module _ {X Z : Type 0} where
  -- the family that a caller sees
  abbrev pub family_of : Vec (Node X) Z → List ℕ → Family X
  family_of nodes lens = record { nodes = nodes.len - 64; lists = seen_of nodes.items lens }

  -- the block holds sixty-four lists with right links and these lengths
  pub record HoldsLists (s : ℕ) (nodes : Vec (Node X) Z) (lens : List ℕ) : Type 0 where
    pub linked : AllLinked s nodes
    pub size : (65 ≤ nodes.len) × (nodes.len ≤ 2112)
    pub count : length lens ≡ 64
    pub lists : AreLists (nexts nodes.items) (prevs nodes.items) (tags nodes.items)
        (values nodes.items) (stored_nodes nodes.items lens)
