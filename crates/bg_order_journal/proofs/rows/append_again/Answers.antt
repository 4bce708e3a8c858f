use Rattle.std.proofs.Common.{◌≡◌, List, ℕ, [], map, string_bytes, subst}
use Rattle.sqlite.specs.Held.{state}
use Rattle.bg_order_journal.specs.Ties.{Ties}
use Rattle.bg_order_journal.proofs.rows.append_again.Goals as goal

pub returns-then-are_same : goal.returns-then-are_same
returns-then-are_same g c =
    let same : map string_bytes c.in-Ok.found.items ≡ map string_bytes c.args.rows.now = rw c.deref.ensures.value at (c.are_same.ensures.0 c.if-are_same.true) in
    c.append_row-is_kept.ensures (map string_bytes c.args.rows.now)
    (λ clean. subst (λ (rs : List (List ℕ)). Ties (state g.S.Store c.in-Ok.journal) rs []) same (c.in-Ok.ensures.tied clean))
