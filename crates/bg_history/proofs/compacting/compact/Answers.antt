use Rattle.std.proofs.Common.{◌≡◌, ◌≤◌, ◌++◌, List, ℕ, length, reverse, take, drop, map, ap, ◌∙◌, arith}
use Rattle.std.proofs.lemmas.List.{length-map, take-append-le, take_all}
use Rattle.bg_history.specs.declared.entry.Entry.{Entry}
use Rattle.bg_history.specs.Compacted.{left_numbers, is_among, thin}
use Rattle.bg_history.specs.Compacting.{as_left}
use Rattle.bg_history.proofs.Looping.{stay, stay-compacted}
use Rattle.bg_history.proofs.compacting.compact.Goals as goal

written : (new old : List Entry) (n : ℕ) → n ≡ length old → length new ≡ length old → take n (new ++ drop (length new) old) ≡ new
written new old n size len =
    let upto : n ≤ length new = omega arith in
    let all : length new ≤ n = omega arith in
    take-append-le n new (drop (length new) old) upto ∙ take_all n new all

pub returns-clause-entries : goal.returns-clause-entries
returns-clause-entries c =
    let new = c.replace_closed.new.entries in
    let old = c.args.entries.now.items in
    let is : new ≡ map (as_left (is_among (left_numbers (reverse old)))) old
    = c.replace_closed.ensures.entries ∙ ap (λ xs. map (as_left (is_among (left_numbers (reverse xs)))) xs) c.as_mut_slice.ensures.value in
    let len : length new ≡ length old = ap length is ∙ length-map old (as_left (is_among (left_numbers (reverse old)))) in
    let size : c.args.entries.now.len ≡ length old = omega arith in
    c.drop_leaves.ensures.entries ∙ ap (λ xs. thin (stay (reverse xs))) (written new old c.args.entries.now.len size len ∙ is) ∙ stay-compacted old
