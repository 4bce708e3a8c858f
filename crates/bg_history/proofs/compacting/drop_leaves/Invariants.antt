use Rattle.std.proofs.Common.{◌≡◌, ◌≤◌, not, filter, reverse, take, drop, vec_len, vec_capacity}
use Rattle.bg_history.specs.Compacted.{thin}
use Rattle.bg_history.specs.Compacting.{is_leave}
use Rattle.bg_history.proofs.compacting.drop_leaves.Given as goal

abbrev pub invariant-loop-place : goal.invariant-loop-place
invariant-loop-place l = record {
  before : l.kept ≤ l.place;
  len : vec_len l.entries ≡ vec_len l.fn.entries;
  capacity : vec_capacity l.entries ≡ vec_capacity l.fn.entries;
  taken : take l.kept l.entries.items ≡ reverse (thin (filter (λ e. not (is_leave e)) (reverse (take l.place l.fn.entries.items))));
  rest : drop l.place l.entries.items ≡ drop l.place l.fn.entries.items;
}
