use Rattle.std.proofs.Common.{Some, ap}
use Rattle.bg_control_port.proofs.Stepping.{stepped}
use Rattle.bg_control_port.specs.Registers.{came_by}
use Rattle.bg_control_port.proofs.connections.Connections.came.Goals as goal

pub returns-in_ok-connection-clause-came : goal.returns-in_ok-connection-clause-came
returns-in_ok-connection-clause-came g c =
    stepped c.args.self.now c.take.new.self c.replace.new.self c.args.key c.args.now c.in-Some.connection c.in-Some.moment
    (came_by c.args.bytes.now) (Some c.in_ok-connection.connection) c.in-Some.ensures.some c.replace.ensures.place
    (ap Some c.in_ok-connection.ensures)
