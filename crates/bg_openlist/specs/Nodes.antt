-- The nodes of a block, as one list for each field.
use Rattle.std.specs.Prelude.{◌≡◌, ℕ, ◌<◌, List, map, Option, All, get_or}
use denote.RattleType.{RattleType}
use Rattle.core.specs.Mem.{type_size}
use Rattle.std_alloc.specs.declared.vec.Vec.{Vec}
use Rattle.bg_openlist.specs.Places.{LeadsTo}
use Rattle.bg_openlist.specs.declared.pointers.Link.{Link}
use Rattle.bg_openlist.specs.declared.nodes.Node.{Node}
use Rattle.bg_openlist.specs.contracts.nodes.Node.{the_row}

module _ {X : Type 0} where
  -- the next node of each node
  abbrev pub nexts : List (Node X) → List ℕ
  nexts = map (λ n. n.next.index)

  -- the previous node of each node
  abbrev pub prevs : List (Node X) → List ℕ
  prevs = map (λ n. n.prev.index)

  -- the number of each node's list
  abbrev pub tags : List (Node X) → List ℕ
  tags = map (λ n. n.list)

  -- the value of each node, if it holds one
  abbrev pub values : List (Node X) → List (Option X)
  values = map (λ n. n.value)

-- the block has the same address and the same number of cells
abbrev pub SameBlock : {X Z : Type 0} → Vec X Z → Vec X Z → Type 0
SameBlock old new = (new.ptr ≡ old.ptr) × (new.len ≡ old.len)

-- the size in bytes of a node that holds a value of the row R
abbrev pub node_size : RattleType → ℕ
node_size R = type_size (the_row R)

module _ (s : ℕ) {X Z : Type 0} where
  -- the link leads to the node of its number
  abbrev pub IsAt : Vec (Node X) Z → Link X → Type 0
  IsAt v link = LeadsTo s v link.ptr link.index

  -- each link of each node leads to the node of its number
  abbrev pub AllLinked : Vec (Node X) Z → Type 0
  AllLinked v = All (λ n. IsAt v n.prev × IsAt v n.next) v.items

  -- each link of the first k nodes leads to the node itself
  pub record IsLoop (v : Vec (Node X) Z) (k : ℕ) : Type 0 where
    pub at : (j : ℕ) (d : Node X) → j < k → IsAt v (get_or v.items j d).prev
        × IsAt v (get_or v.items j d).next
    pub next : (j : ℕ) (d : Node X) → j < k → (get_or v.items j d).next.index ≡ j
    pub prev : (j : ℕ) (d : Node X) → j < k → (get_or v.items j d).prev.index ≡ j
