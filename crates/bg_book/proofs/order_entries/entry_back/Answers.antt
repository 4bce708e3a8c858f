use Rattle.std.proofs.Common.{ap, sym, ◌∙◌, ◌-◌}
use Rattle.std.specs.List.{slice_get}
use Rattle.std.specs.Prelude.{option_map, reverse}
use Rattle.bg_book.proofs.OrderEntries.{back_at}
use Rattle.bg_book.proofs.order_entries.entry_back.Goals as goal

pub returns : goal.returns
returns c =
    back_at c.args.history.now.past c.args.back c.unwrap.result.now c.requires
    (ap (λ n. slice_get (reverse c.args.history.now.past) (n - 1 - c.args.back)) (sym c.len.ensures)
    ∙ sym c.get.ensures ∙ ap (option_map (λ e. e.now)) c.unwrap.ensures)
