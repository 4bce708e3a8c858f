use Rattle.std.proofs.Common.{◌≡◌, refl, ◌∙◌}
use Rattle.bg_history.specs.AttemptBounds.{moment}
use Rattle.bg_history.specs.Selections.{selectors_of}
use Rattle.bg_scaledown.specs.Due.{is_due_in}
use Rattle.bg_history.specs.Tables.{table_of}
use Rattle.bg_scaledown.proofs.deadlines.Deadlines.is_due.Goals as goal

pub returns-clause-past : goal.returns-clause-past
returns-clause-past c s past kept invariant selected at =
    let same : is_due_in c.args.self.now c.args.revision c.args.now c.args.exempt ≡ is_due_in (table_of s past) c.args.revision (moment past) (selectors_of past) = rw (kept, selected, at) refl in
    c.has_due_mark.ensures ∙ same ∙ c.table_tells_due.ensures s past c.args.revision invariant
