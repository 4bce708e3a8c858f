use Rattle.std.proofs.Common.{◌<◌, ◌+◌, List, ◌∷◌, length, take, drop, sym, subst, arith}
use Rattle.std.proofs.lemmas.Bool.Decides.{nat_tests}
use Rattle.bg_history.specs.declared.entry.Entry.{Entry}
use Rattle.bg_history_laws.specs.Journaled.{journaled}
use Rattle.bg_book.proofs.OrderEntries.{Taken, next_taken}
use Rattle.bg_book.proofs.order_entries.newest_first.Goals as goal

pub loop-back-preserved : goal.loop-back-preserved
loop-back-preserved c =
    let past = c.args.history.now.past in
    let items = c.loop-back.entries.items in
    let count = c.args.count in
    let all = take count (journaled past) in
    let rest = drop (c.loop-back.back + 1) past in
    let room : length items < count = grind (arith, nat_tests, c.if-len-count.false, c.len.ensures) in
    let here : Taken items count (journaled (c.entry_back.result.now ∷ rest)) all =
    subst (λ (l : List Entry). Taken items count (journaled l) all) c.entry_back.ensures c.loop-back.invariant in
    subst (λ (l : List Entry). Taken l count (journaled rest) all) (sym c.in_ok-push_copy.ensures) (next_taken items count c.entry_back.result.now rest all room here)
