use Rattle.std.proofs.Common.{sym, subst}
use Rattle.bg_control_port.proofs.Bounded.{replied_bounded}
use Rattle.bg_control_port.proofs.Stepping.{stepped}
use Rattle.bg_control_port.specs.Bounds.{IsBounded}
use Rattle.bg_control_port.specs.Registers.{replied_by}
use Rattle.bg_control_port.proofs.connections.Connections.replied.Goals as goal

pub replace-requires-clause-bounded : goal.replace-requires-clause-bounded
replace-requires-clause-bounded g c =
    subst IsBounded (sym c.in_ok-connection.ensures)
    (replied_bounded c.args.reply.bytes.now c.args.reply.after c.args.count c.in-Some.moment c.in-Some.connection
    c.in-Some.ensures.some.bounded)

pub returns-in_ok-connection-clause-replied : goal.returns-in_ok-connection-clause-replied
returns-in_ok-connection-clause-replied g c =
    stepped c.args.self.now c.take.new.self c.replace.new.self c.args.key c.args.now c.in-Some.connection c.in-Some.moment
    (replied_by c.args.reply.bytes.now c.args.reply.after c.args.count) c.in_ok-connection.connection
    c.in-Some.ensures.some c.replace.ensures.place c.in_ok-connection.ensures
