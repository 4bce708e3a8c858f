use Rattle.std.proofs.Common.{sym, ◌∙◌}
use Rattle.bg_rollout.proofs.WholeStates.Openings.{seats_in_range, widened}
use Rattle.bg_rollout.proofs.rollout.Rollout.open.Goals as goal

pub assemble-requires-clause-fits : goal.assemble-requires-clause-fits
assemble-requires-clause-fits g c =
    widened c.args.limit c.args.opening.now.strategy.now c.args.opening.now.name.now c.args.opening.now.ports.now c.args.opening.now.seats c.args.opening.now.limits (sym c.opening_fault.ensures ∙ c.in_default.is)

pub assemble-requires-clause-count : goal.assemble-requires-clause-count
assemble-requires-clause-count g c =
    let range = seats_in_range c.args.limit c.args.opening.now.strategy.now c.args.opening.now.name.now c.args.opening.now.ports.now c.args.opening.now.seats c.args.opening.now.limits (sym c.opening_fault.ensures ∙ c.in_default.is) in
    c.requires.count range.0 range.1
