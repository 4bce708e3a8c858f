use Rattle.std.proofs.Common.{◌≡◌, ◌∷◌, length, map, string_bytes, sym, ap, ◌∙◌, arith}
use Rattle.bg_strategy_text.specs.Texts.{strategy_text}
use Rattle.bg_order_journal.specs.FirstRow.{first_row}
use Rattle.bg_order_journal.specs.Refusals.{FailsToOpen, FirstRowFaultIs}
use Rattle.bg_order_journal.specs.declared.start_fault.StartFault.TheVariants.{Journal}
use Rattle.bg_order_journal.proofs.Refused.{first_refused, if_err_is, no_texts, orders_refused, was_read}
use Rattle.bg_order_journal.proofs.starting.open_journal.Goals as goal

pub returns-in_default-clause-empty : goal.returns-in_default-clause-empty
returns-in_default-clause-empty g c =
    let rows = c.in_ok-journal.rows.items in
    let none : length rows ≡ 0 = rw c.as_slice.ensures.value at c.in_default.ensures.cases in
    was_read g.S.Store c.in_ok-journal.journal (map string_bytes rows) _ c.in_ok-journal.ensures.tied (no_texts rows (omega arith))

pub returns-in_err-first-clause-fault : goal.returns-in_err-first-clause-fault
returns-in_err-first-clause-fault g c =
    let Fails = g.O.OpensJournal.fails c.args.opener in
    let why = c.in_err-first.field-0.0 in
    let settings = strategy_text c.args.strategy.now in
    let row = string_bytes c.in-Some.row.now in
    let texts = map string_bytes c.in-Some.texts.now in
    let rows = map string_bytes c.in_ok-journal.rows.items in
    let are : rows ≡ row ∷ texts = ap (map string_bytes) (sym c.as_slice.ensures.value ∙ c.in-Some.ensures.cases.0) in
    let is : FirstRowFaultIs settings row why = rw (c.as_str.ensures.value, c.as_str-2.ensures.value, c.in_ok-settings.ensures) at c.in_err-first.ensures.fault in
    if_err_is (FailsToOpen g.S.Store Fails settings) c.from_residual-in_err-first.result why c.from_residual-in_err-first.ensures.1
    (first_refused g.S.Store Fails c.in_ok-journal.journal settings row texts rows why c.in_ok-journal.ensures.tied are is)

pub returns-in_err-entries-clause-fault : goal.returns-in_err-entries-clause-fault
returns-in_err-entries-clause-fault g c =
    let Fails = g.O.OpensJournal.fails c.args.opener in
    let why = c.in_err-entries.field-0.0 in
    let settings = strategy_text c.args.strategy.now in
    let first = c.in_ok-first.first in
    let row = string_bytes c.in-Some.row.now in
    let texts = map string_bytes c.in-Some.texts.now in
    let rows = map string_bytes c.in_ok-journal.rows.items in
    let are : rows ≡ row ∷ texts = ap (map string_bytes) (sym c.as_slice.ensures.value ∙ c.in-Some.ensures.cases.0) in
    let is : row ≡ first_row settings first.name first.ports = rw (c.as_str.ensures.value, c.as_str-2.ensures.value, c.in_ok-settings.ensures) at c.in_ok-first.ensures.text in
    if_err_is (FailsToOpen g.S.Store Fails settings) c.from_residual-in_err-entries.result why c.from_residual-in_err-entries.ensures.1
    (orders_refused g.S.Store Fails c.in_ok-journal.journal settings row first.name first.ports texts rows why c.in_ok-journal.ensures.tied are is c.in_err-entries.ensures.fault)

pub returns-in_err-journal-clause-fault : goal.returns-in_err-journal-clause-fault
returns-in_err-journal-clause-fault g c =
    if_err_is (FailsToOpen g.S.Store (g.O.OpensJournal.fails c.args.opener) (strategy_text c.args.strategy.now)) c.from_residual-in_err-journal.result
    (Journal c.in_err-journal.field-0.0) c.from_residual-in_err-journal.ensures.1 c.in_err-journal.ensures.failed
