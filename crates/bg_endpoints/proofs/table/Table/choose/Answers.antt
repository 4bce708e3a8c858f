use Rattle.std.proofs.Common.{◌≡◌, true, IfSome, subst, sym}
use Rattle.bg_endpoints.specs.Choices.{is_new}
use Rattle.bg_endpoints.proofs.Chosen.{chosen_once}
use Rattle.bg_endpoints.proofs.Left.{left}
use Rattle.bg_endpoints.proofs.table.Table.choose.Goals as goal

pub returns-clause-once : goal.returns-clause-once
returns-clause-once c =
    subst (λ r. IfSome r (λ port. is_new port c.args.tried.now ≡ true)) (sym c.choose_by.ensures)
    (chosen_once c.args.self.now c.args.ticket c.args.tried.now c.args.now)

pub returns-clause-left : goal.returns-clause-left
returns-clause-left c = left c.args.self.now c.args.ticket c.args.now c.args.tried.now _ c.choose_by.ensures
