use Rattle.std.proofs.Common.{sym, ◌∙◌}
use Rattle.bg_order_journal.proofs.SameRows.{same_texts, texts_same}
use Rattle.bg_order_journal.proofs.rows.are_same.Goals as goal

pub returns : goal.returns
returns c = (
  λ e. same_texts c.args.found.now c.args.rows.now (sym c.eq.ensures ∙ e),
  λ same. c.eq.ensures ∙ texts_same c.args.found.now c.args.rows.now same,
)
