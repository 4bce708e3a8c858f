-- Short names for the fields of a block, column by column, and for its lists.
use Rattle.std.proofs.Common.{◌≡◌, ℕ, List, length, get_or, map, set, sym, ap, ◌∙◌, arith, Option}
use mathlib.Core.Path.{subst}
use Rattle.std.proofs.lemmas.List.{length-map}
use Rattle.std.proofs.Math.Seq.{map-set_same}
use Rattle.std_alloc.specs.declared.vec.Vec.{Vec}
use Rattle.bg_openlist.specs.declared.nodes.Node.{Node}
use Rattle.bg_openlist.specs.Block.{AreLists, HoldsLists, stored_nodes, pairs_of}
use Rattle.bg_openlist.specs.Nodes.{AllLinked, nexts, prevs, tags, values}
use Rattle.bg_openlist.specs.Rings.{walk}

pub record Columns (X : Type 0) : Type 0 where
  -- the next cell, the previous cell, the list's number and the value of each cell
  pub nx : List ℕ
  pub pv : List ℕ
  pub tg : List ℕ
  pub vs : List (Option X)
  -- the nodes of each list, and its pairs as callers see them
  pub fam : ℕ → List ℕ
  pub row : ℕ → List (ℕ × X)

module _ {X Z : Type 0} (nodes : Vec (Node X) Z) where
  abbrev pub columns : List ℕ → Columns X
  columns lens = record {
    nx = nexts nodes.items;
    pv = prevs nodes.items;
    tg = tags nodes.items;
    vs = values nodes.items;
    fam = stored_nodes nodes.items lens;
    row = λ l. pairs_of (values nodes.items) (stored_nodes nodes.items lens l);
  }

  pub length-nexts : length (nexts nodes.items) ≡ nodes.len
  length-nexts = length-map nodes.items (λ (n : Node X). n.next.index) ∙ sym nodes.ok.0

  pub length-prevs : length (prevs nodes.items) ≡ nodes.len
  length-prevs = length-map nodes.items (λ (n : Node X). n.prev.index) ∙ sym nodes.ok.0

  pub length-tags : length (tags nodes.items) ≡ nodes.len
  length-tags = length-map nodes.items (λ (n : Node X). n.list) ∙ sym nodes.ok.0

  pub length-values : length (values nodes.items) ≡ nodes.len
  length-values = length-map nodes.items (λ (n : Node X). n.value) ∙ sym nodes.ok.0

-- if a cell is written, the column of an unchanged field is unchanged
pub column_same : {X Y : Type 0} (field : Node X → Y) (ns : List (Node X)) (i : ℕ) (now was : Node X) → was ≡ get_or ns i was → field now ≡ field was → map field (set ns i now) ≡ map field ns
column_same field ns i now was is same = map-set_same field ns i now was (same ∙ ap field is)

-- the block after a change of its links, if its columns become these
pub holds_now : {X Z : Type 0} {s : ℕ} {nodes nodes' : Vec (Node X) Z} {lens : List ℕ} (old : HoldsLists s nodes lens) (nx pv tg : List ℕ) (vs : List (Option X)) (lens' : List ℕ)
    → AllLinked s nodes' → nodes'.len ≡ nodes.len → nexts nodes'.items ≡ nx → prevs nodes'.items ≡ pv → tags nodes'.items ≡ tg → values nodes'.items ≡ vs → length lens' ≡ length lens
    → AreLists nx pv tg vs (λ l. walk nx (get_or lens' l 0) l) → HoldsLists s nodes' lens'
holds_now {X = X} old nx pv tg vs lens' linked len nx_is pv_is tg_is vs_is count lists = record {
  linked = linked;
  size = (omega (arith, len, old.size), omega (arith, len, old.size));
  count = count ∙ old.count;
  lists = subst (λ (t : List ℕ × List ℕ × List ℕ × List (Option X)). AreLists t.0 t.1 t.2 t.3 (λ l. walk t.0 (get_or lens' l 0) l)) (λ i. (sym nx_is i, sym pv_is i, sym tg_is i, sym vs_is i)) lists;
}
