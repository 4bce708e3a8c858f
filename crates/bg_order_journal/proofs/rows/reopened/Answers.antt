use Rattle.std.proofs.Common.{◌≡◌, true, map, string_bytes, sym, ◌∙◌}
use Rattle.std.proofs.lemmas.Bool.{true≢false}
use Rattle.bg_order_journal.proofs.Refused.{was_read}
use Rattle.bg_order_journal.proofs.rows.reopened.Goals as goal

pub returns-else-are_same-clause-fault : goal.returns-else-are_same-clause-fault
returns-else-are_same-clause-fault g c =
    was_read g.S.Store c.in_ok-journal.journal (map string_bytes c.in_ok-journal.found.items) _ c.in_ok-journal.ensures.tied
    (λ same. let yes : c.are_same.result ≡ true = c.are_same.ensures.1 (rw c.deref.ensures.value same) in true≢false (sym yes ∙ c.if-are_same.false))
