use Rattle.std.proofs.Common.{slice_get, ap, ◌∙◌}
use Rattle.std.specs.Option.{unwrap_or}
use Rattle.bg_history.specs.Compacting.{is_some_enter_of}
use Rattle.bg_history.proofs.Closing.{first-found}
use Rattle.bg_history.proofs.compacting.place_of_enter.Goals as goal

pub returns-2 : goal.returns-2
returns-2 c =
    ap (λ r. is_some_enter_of c.args.number (slice_get c.args.entries.now r)) (c.unwrap_or.ensures ∙ ap (λ o. unwrap_or o c.args.latest) c.first_enter.ensures)
    ∙ first-found c.args.number c.args.entries.now c.args.latest c.requires
