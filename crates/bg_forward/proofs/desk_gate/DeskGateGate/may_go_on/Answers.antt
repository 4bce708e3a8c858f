use Rattle.std.proofs.Common.{sym, ◌∙◌}
use Rattle.bg_forward.proofs.desk_gate.DeskGateGate.may_go_on.Goals as goal

pub returns-clause-gives_up : goal.returns-clause-gives_up
returns-clause-gives_up g c cut =
    let told = c.may_go_on.ensures.told in
    (told.0, told.1, told.2, sym told.3 ∙ cut)
