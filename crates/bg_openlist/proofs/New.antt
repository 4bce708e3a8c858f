-- The block of free nodes.
use Rattle.std.proofs.Common.{◌≡◌, ℕ, ◌+◌, ◌-◌, ◌<◌, ◌≤◌, List, [], get_or, replicate, refl, sym, ap, ◌∙◌, arith, None}
use Prim.Native.Nat.{zero, suc}
use mathlib.Core.Path.{subst}
use Rattle.std.proofs.lemmas.List.{get_or-map}
use Rattle.std.proofs.lemmas.List.Elements.{All-from_get_or}
use Rattle.std_alloc.specs.declared.vec.Vec.{Vec}
use Rattle.bg_openlist.specs.declared.nodes.Node.{Node}
use Rattle.core.proofs.ptr.Rows.{hd}
use Rattle.bg_openlist.specs.Block.{HoldsLists, IsList, family_of, pairs_of, seen_of}
use Rattle.bg_openlist.specs.Family.{empty_family, place_among, places}
use Rattle.bg_openlist.specs.Nodes.{IsAt, IsLoop, values}
use Rattle.bg_openlist.specs.Rings.{walk}
use Rattle.bg_openlist.proofs.Cases.{none_some}
use Rattle.bg_openlist.proofs.Columns.{columns}
use Rattle.bg_openlist.proofs.Tables.{table_const, table_same}

get_or_all : {Y : Type 0} (n i : ℕ) (y : Y) → get_or (replicate n y) i y ≡ y
get_or_all zero i y = refl
get_or_all (suc n) zero y = refl
get_or_all (suc n) (suc i) y = get_or_all n i y

pub all_free : {X : Type 0} (n : ℕ) → places (empty_family {X = X} n) ≡ replicate n None
all_free {X = X} n = table_same (λ _. None) (place_among {X = X} (replicate 64 []) 0) 0 n (λ j le lt. refl) ∙ table_const None 0 n

-- the block's nodes are empty, and each leads to itself
pub record IsUnused (s : ℕ) {X Z : Type 0} (v : Vec (Node X) Z) (count : ℕ) : Type 0 where
  pub long : v.len ≡ 64 + count
  pub room : (1 ≤ count) × (count ≤ 2048)
  pub loops : IsLoop s v (64 + count)
  pub none : values v.items ≡ replicate (64 + count) None

module _ {s : ℕ} {X Z : Type 0} {v : Vec (Node X) Z} {count : ℕ} (unused : IsUnused s v count) where
  open unused use {loops}

  abbrev zeros : List ℕ
  zeros = replicate 64 0

  open columns v zeros use {nx, pv, tg, vs, fam, row}

  first : Node X
  first = hd v.items (omega (arith, v.ok.0))

  empty : (k : ℕ) → get_or vs k None ≡ None
  empty k = ap (λ l. get_or l k None) unused.none ∙ get_or_all (64 + count) k None

  no_nodes : (l : ℕ) → fam l ≡ []
  no_nodes l = ap (λ n. walk nx n l) (get_or_all 64 l 0)

  alone : (l : ℕ) → l < 64 → IsList nx pv tg vs l []
  alone l lt = record {
    path = (
      get_or-map (λ (n : Node X). n.next.index) v.items l first 0 (omega (arith, v.ok.0)) ∙ loops.next l first (omega arith),
      get_or-map (λ (n : Node X). n.prev.index) v.items l first 0 (omega (arith, v.ok.0)) ∙ loops.prev l first (omega arith),
    );
    once = tt;
    nodes = tt;
  }

  pub holds_new : HoldsLists s v zeros
  holds_new = record {
    linked = All-from_get_or (λ (n : Node X). IsAt s v n.prev × IsAt s v n.next) v.items first (λ i lt. loops.at i first (omega (arith, v.ok.0)));
    size = (omega arith, omega arith);
    count = refl;
    lists = record {
      each = λ l lt. subst (IsList nx pv tg vs l) (sym (no_nodes l)) (alone l lt);
      every = λ k x hi e. absurd (none_some x (sym (empty k) ∙ e));
      heads = λ l lt. empty l;
    };
  }

  seen_new : seen_of v.items zeros ≡ replicate 64 []
  seen_new = table_same (λ _. []) row 0 64 (λ j le lt. ap (pairs_of vs) (no_nodes j)) ∙ table_const [] 0 64

  pub family_new : family_of v zeros ≡ empty_family count
  family_new = let nodes : v.len - 64 ≡ count = omega arith in λ i. record { nodes = nodes i; lists = seen_new i }
