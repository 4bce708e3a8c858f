use Rattle.bg_order_journal.proofs.Refused.{append_failed}
use Rattle.bg_order_journal.proofs.rows.append_text.Goals as goal

pub returns-clause-failed : goal.returns-clause-failed
returns-clause-failed g c = append_failed g.S.Store c.args.journal.now c.append.new.self c.args.text.now c.append.result c.append.ensures.failed
