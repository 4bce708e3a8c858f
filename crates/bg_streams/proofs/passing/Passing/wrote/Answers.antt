use Rattle.std.proofs.Common.{ap, arith, length, refl}
use Rattle.bg_streams.proofs.PassingLemmas.{body_written, part_written}
use Rattle.bg_streams.proofs.passing.Passing.wrote.Goals as goal

pub returns-then-left-eq0-clause-stands : goal.returns-then-left-eq0-clause-stands
returns-then-left-eq0-clause-stands c =
    let left = ap length c.head_rest-left.ensures in
    body_written c.args.self.now c.wrote.new.self c.args.count (omega (arith, left, c.if-left-eq0.true))
    (ap (λ relay. relay.outgoing) c.wrote.ensures.state) c.wrote.ensures.stands

pub returns-else-count-left-clause-stands : goal.returns-else-count-left-clause-stands
returns-else-count-left-clause-stands c =
    let left = ap length c.head_rest-left.ensures in
    part_written c.args.self.now _ c.args.count (omega (arith, left, c.if-left-eq0.false)) refl
