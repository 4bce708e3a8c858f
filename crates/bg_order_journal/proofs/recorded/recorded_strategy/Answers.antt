use Rattle.std.proofs.Common.{map, string_bytes}
use Rattle.bg_order_journal.specs.Refusals.{FailsToName}
use Rattle.bg_order_journal.specs.declared.start_fault.StartFault.TheVariants.{Journal}
use Rattle.bg_order_journal.proofs.Refused.{if_err_is, no_first, some_first, was_read}
use Rattle.bg_order_journal.proofs.recorded.recorded_strategy.Goals as goal

pub returns-in_default-clause-empty : goal.returns-in_default-clause-empty
returns-in_default-clause-empty g c =
    let rows = c.in_ok-_journal.rows.items in
    was_read g.S.Store c.in_ok-_journal._journal (map string_bytes rows) _ c.in_ok-_journal.ensures.tied (no_first rows (rw c.deref.ensures.value at c.in_default.ensures.value))

pub returns-in_default-settings_in-clause-fault : goal.returns-in_default-settings_in-clause-fault
returns-in_default-settings_in-clause-fault g c =
    let rows = c.in_ok-_journal.rows.items in
    was_read g.S.Store c.in_ok-_journal._journal (map string_bytes rows) _ c.in_ok-_journal.ensures.tied (some_first rows c.in-Some.row.now (rw c.deref.ensures.value at c.in-Some.ensures.value))

pub returns-clause-some : goal.returns-clause-some
returns-clause-some g c =
    let rows = c.in_ok-_journal.rows.items in
    was_read g.S.Store c.in_ok-_journal._journal (map string_bytes rows) _ c.in_ok-_journal.ensures.tied (some_first rows c.in-Some.row.now (rw c.deref.ensures.value at c.in-Some.ensures.value))

pub returns-in_err-_journal-clause-fault : goal.returns-in_err-_journal-clause-fault
returns-in_err-_journal-clause-fault g c =
    if_err_is (FailsToName g.S.Store (g.O.OpensJournal.fails c.args.opener.now)) c.from_residual.result
    (Journal c.in_err-_journal.field-0.0) c.from_residual.ensures.1 c.in_err-_journal.ensures.failed
