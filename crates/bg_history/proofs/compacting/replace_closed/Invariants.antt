use Rattle.std.proofs.Common.{◌≡◌, reverse, take, map}
use Rattle.bg_history.specs.Compacted.{left_numbers, is_among, raised}
use Rattle.bg_history.specs.Compacting.{as_left}
use Rattle.bg_history.proofs.compacting.replace_closed.Given as goal

abbrev pub invariant-loop-place : goal.invariant-loop-place
invariant-loop-place l = record {
  entries : l.entries ≡ map (as_left (is_among (left_numbers (reverse (take l.place l.fn.entries))))) l.fn.entries;
  closed : l.closed ≡ raised (is_among (left_numbers (reverse (take l.place l.fn.entries)))) (reverse l.fn.entries) l.fn.closed;
}
