use Rattle.std.proofs.Common.{inl, inr}
use Rattle.bg_order_journal.specs.Refusals.{FailsBelow}
use Rattle.bg_order_journal.proofs.Refused.{if_err_is}
use Rattle.bg_order_journal.proofs.rows.open_rows.Goals as goal

pub returns-in_err-journal-clause-failed : goal.returns-in_err-journal-clause-failed
returns-in_err-journal-clause-failed g c =
    if_err_is (FailsBelow g.S.Store (g.O.OpensJournal.fails c.args.opener.now)) c.from_residual.result c.in_err-journal.field-0.0 c.from_residual.ensures.1
    (inl c.in_err-journal.ensures.failed)

pub returns-in_err-rows-clause-failed : goal.returns-in_err-rows-clause-failed
returns-in_err-rows-clause-failed g c =
    if_err_is (FailsBelow g.S.Store (g.O.OpensJournal.fails c.args.opener.now)) c.from_residual-in_err-rows.result c.in_err-rows.field-0.0 c.from_residual-in_err-rows.ensures.1
    (inr (record { before = c.in_ok-journal.journal; after = c.read_all.new.self; call = λ clean. inl (c.in_err-rows.ensures.failed clean) }))
