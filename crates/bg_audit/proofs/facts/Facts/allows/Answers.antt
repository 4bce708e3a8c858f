use Rattle.std.proofs.Common.{◌∙◌, ap}
use Rattle.bg_audit.specs.Scans.{enters_in}
use Rattle.bg_audit.proofs.Allowing.{enters-is}
use Rattle.bg_audit.proofs.facts.Facts.allows.Goals as goal

pub returns-in-Enter : goal.returns-in-Enter
returns-in-Enter c = λ o past known reach is.
    rw c.in-Enter.is
    (c.may_enter.ensures
    ∙ ap (λ selected. enters_in c.args.self.now c.args.seats selected c.in-Enter.seat c.in-Enter.number c.in-Enter.revision c.in-Enter.port) (c.selection-selected.ensures past known.state)
    ∙ enters-is c.args.strategy.now o past c.args.self.now c.in-Enter.service c.args.seats c.in-Enter.seat c.in-Enter.number c.in-Enter.revision c.in-Enter.port known reach
    (c.finds.ensures.number c.args.strategy.now o past c.in-Enter.revision) is)
