use Rattle.bg_control_port.proofs.Stepping.{stepped}
use Rattle.bg_control_port.specs.Registers.{ended_by}
use Rattle.bg_control_port.proofs.connections.Connections.end_input.Goals as goal

pub returns-in-Some : goal.returns-in-Some
returns-in-Some g c =
    stepped c.args.self.now c.take.new.self c.replace.new.self c.args.key c.args.now c.in-Some.connection c.in-Some.moment
    ended_by c.ended.result c.in-Some.ensures.some c.replace.ensures.place c.ended.ensures
