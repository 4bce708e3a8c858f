use Rattle.std.proofs.Common.{inr, ◌<◌, List, ℕ, [], length, map, string_bytes, sym, subst, ◌∙◌, arith}
use Rattle.std.proofs.lemmas.Bool.{true≢false}
use Rattle.sqlite.specs.Held.{state}
use Rattle.bg_order_journal.specs.Refusals.{FailsToBegin}
use Rattle.bg_order_journal.specs.Ties.{Ties}
use Rattle.bg_order_journal.specs.declared.start_fault.StartFault.TheVariants.{Journal}
use Rattle.bg_order_journal.proofs.Refused.{have_other, have_two, if_err_is, no_texts, was_read}
use Rattle.bg_order_journal.proofs.starting.begin_rows.Goals as goal

pub returns-in_ok-append_text-in-empty-clause-begun : goal.returns-in_ok-append_text-in-empty-clause-begun
returns-in_ok-append_text-in-empty-clause-begun g c =
    let rows = c.args.rows.now in
    let few : length rows < 1 = omega arith in
    c.in_ok-append_text-in-empty.ensures.tied []
    (λ clean. subst (λ (texts : List (List ℕ)). Ties (state g.S.Store c.args.journal.now) texts []) (no_texts rows few) (c.requires clean))

pub returns-in_default-clause-fault : goal.returns-in_default-clause-fault
returns-in_default-clause-fault g c =
    let rows = c.args.rows.now in
    was_read g.S.Store c.args.journal.now (map string_bytes rows) _ c.requires (have_other rows c.only-item.result c.args.row.now c.in-len1.len_at_least c.only-item.is
    (λ same. true≢false (sym (c.is_text.ensures.1 same) ∙ c.if-is_text.false)))

pub returns-in_default-2-clause-fault : goal.returns-in_default-2-clause-fault
returns-in_default-2-clause-fault g c =
    let rows = c.args.rows.now in
    was_read g.S.Store c.args.journal.now (map string_bytes rows) _ c.requires (have_two rows c.args.row.now c.in_default.len_at_least)

pub returns-in_err-append_text-in-empty-clause-fault : goal.returns-in_err-append_text-in-empty-clause-fault
returns-in_err-append_text-in-empty-clause-fault g c =
    if_err_is (FailsToBegin g.S.Store (λ _. ⊥) c.args.row.now) c.from_residual.result (Journal c.in_err-append_text-in-empty.field-0.0) c.from_residual.ensures.1
    (inr c.in_err-append_text-in-empty.ensures.failed)
