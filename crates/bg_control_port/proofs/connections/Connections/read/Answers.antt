use Rattle.std.proofs.Common.{Some, refl, sym, subst}
use Rattle.bg_control_port.proofs.Bounded.{read_bounded}
use Rattle.bg_control_port.proofs.Stepping.{stepped}
use Rattle.bg_control_port.specs.Registers.{ReadsIn, becomes}
use Rattle.bg_control_port.proofs.connections.Connections.read.Goals as goal

pub replace-requires-clause-bounded : goal.replace-requires-clause-bounded
replace-requires-clause-bounded g c =
    read_bounded (g.P.ReadsLines.reads c.args.reader.now) (g.P.ReadsLines.puts_first c.args.reader.now) c.in-Some.connection
    c.in_ok-connection.connection c.in_ok-connection.ensures c.in-Some.ensures.some.bounded

pub returns-in_ok-connection-clause-read : goal.returns-in_ok-connection-clause-read
returns-in_ok-connection-clause-read g c =
    let takes = c.in-Some.ensures.some in
    let new = c.in_ok-connection.connection in
    subst (λ place. ReadsIn (g.P.ReadsLines.reads c.args.reader.now) (g.P.ReadsLines.puts_first c.args.reader.now) c.args.now place
    c.args.self.now c.replace.new.self c.args.key) (sym takes.was) (
      new,
      c.in_ok-connection.ensures,
      stepped c.args.self.now c.take.new.self c.replace.new.self c.args.key c.args.now c.in-Some.connection
          c.in-Some._moment (becomes new) (Some new) takes c.replace.ensures.place refl,
    )
