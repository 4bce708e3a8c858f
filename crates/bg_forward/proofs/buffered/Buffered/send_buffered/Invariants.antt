use Rattle.std.specs.Io.KnownBytes.{Keeps}
use Rattle.bg_forward.specs.Buffers.{buffered}
use Rattle.bg_forward.proofs.buffered.Buffered.send_buffered.Given as goal

abbrev pub invariant-loop : goal.invariant-loop
invariant-loop g l = Keeps (buffered g.S.Write.contents l.initial.self) (buffered g.S.Write.contents l.self)
