use Rattle.std.proofs.Common.{slice_index_or, None}
use Rattle.bg_load.proofs.Earliest.{IsEarliest}
use Rattle.bg_load.specs.Rankings.{rank_in}
use Rattle.bg_load.proofs.load_table.LoadTable.first_in.Given as goal

-- this is the first connection in the ranking so far
abbrev pub invariant-loop-key : goal.invariant-loop-key
invariant-loop-key l = IsEarliest (λ k. rank_in l.ranking (slice_index_or l.self k None)) l.key l.first
