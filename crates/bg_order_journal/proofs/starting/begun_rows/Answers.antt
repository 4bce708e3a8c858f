use Rattle.std.proofs.Common.{◌≡◌, string_bytes, ap, subst, ◌∙◌}
use Rattle.bg_order_journal.specs.FirstRow.{first_row}
use Rattle.bg_order_journal.specs.Refusals.{FailsToBegin}
use Rattle.bg_order_journal.specs.declared.start_fault.StartFault.TheVariants.{Journal}
use Rattle.bg_strategy_text.specs.Texts.{strategy_text}
use Rattle.bg_order_journal.proofs.Refused.{fails_more, if_err_is}
use Rattle.bg_order_journal.proofs.starting.begun_rows.Goals as goal

pub returns-in_err-journal-clause-fault : goal.returns-in_err-journal-clause-fault
returns-in_err-journal-clause-fault g c =
    if_err_is (FailsToBegin g.S.Store (g.O.OpensJournal.fails c.args.opener.now) (first_row (strategy_text c.args.strategy.now) c.args.first.now.name c.args.first.now.ports)) c.from_residual-in_err-journal.result
    (Journal c.in_err-journal.field-0.0) c.from_residual-in_err-journal.ensures.1 c.in_err-journal.ensures.failed

pub returns-in_err-begin_rows-clause-fault : goal.returns-in_err-begin_rows-clause-fault
returns-in_err-begin_rows-clause-fault g c =
    let why = c.in_err-begin_rows.field-0.0 in
    let Fails = g.O.OpensJournal.fails c.args.opener.now in
    let first = first_row (strategy_text c.args.strategy.now) c.args.first.now.name c.args.first.now.ports in
    let is : string_bytes c.in-Some.row ≡ first =
    c.in-Some.ensures ∙ ap (λ s. first_row s c.args.first.now.name c.args.first.now.ports) (c.as_str.ensures.value ∙ c.in_ok-settings.ensures) in
    if_err_is (FailsToBegin g.S.Store Fails first) c.from_residual-in_err-begin_rows.result why c.from_residual-in_err-begin_rows.ensures.1
    (fails_more g.S.Store Fails first why (subst (λ row. FailsToBegin g.S.Store (λ _. ⊥) row why) (c.as_str-2.ensures.value ∙ is) c.in_err-begin_rows.ensures.fault))
