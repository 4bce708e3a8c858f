use Rattle.std.proofs.Common.{sym, subst}
use Rattle.bg_control_port.proofs.Bounded.{wrote_bounded}
use Rattle.bg_control_port.proofs.Stepping.{stepped}
use Rattle.bg_control_port.specs.Bounds.{IsBounded}
use Rattle.bg_control_port.specs.Registers.{wrote_by}
use Rattle.bg_control_port.proofs.connections.Connections.wrote.Goals as goal

pub replace-requires-clause-bounded : goal.replace-requires-clause-bounded
replace-requires-clause-bounded g c =
    subst IsBounded (sym c.wrote.ensures)
    (wrote_bounded c.args.count c.in-Some.moment c.in-Some.connection c.in-Some.ensures.some.bounded)

pub returns-in-Some : goal.returns-in-Some
returns-in-Some g c =
    stepped c.args.self.now c.take.new.self c.replace.new.self c.args.key c.args.now c.in-Some.connection c.in-Some.moment
    (wrote_by c.args.count) c.wrote.result c.in-Some.ensures.some c.replace.ensures.place c.wrote.ensures
