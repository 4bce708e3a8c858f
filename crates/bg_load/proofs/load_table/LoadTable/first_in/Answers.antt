use Rattle.std.proofs.Common.{◌≡◌, ◌+◌, ◌∙◌, None, ap, sym, subst, slice_index_or}
use Rattle.bg_load.proofs.Earliest.{IsEarliest, earliest_more}
use Rattle.bg_load.specs.Rankings.{rank_in}
use Rattle.bg_load.proofs.load_table.LoadTable.first_in.Goals as goal

pub loop-key-preserved : goal.loop-key-preserved
loop-key-preserved c =
    let places = c.args.self.now in
    let key = c.loop-key.key in
    let same = c.deref-place-items.ensures.value ∙ c.self.view_is in
    let rank : rank_in c.args.ranking (slice_index_or places key None) ≡ c.rank_of.result =
    sym (c.rank_of.ensures ∙ ap (λ xs. rank_in c.args.ranking (slice_index_or xs key None)) same) in
    subst (λ first. IsEarliest (λ k. rank_in c.args.ranking (slice_index_or places k None)) (key + 1) first)
    (sym c.earlier-first.ensures)
    (earliest_more (λ k. rank_in c.args.ranking (slice_index_or places k None)) key c.loop-key.first c.rank_of.result
    c.loop-key.invariant rank)
