use Rattle.std.proofs.Common.{◌≡◌, length}
use Rattle.std.specs.Io.KnownBytes.{Keeps}
use Rattle.bg_http_read.proofs.intake.read_piece.Given as goal

abbrev pub invariant-loop : goal.invariant-loop
invariant-loop g l = record {
  remaining : Keeps (g.S.Read.remaining l.initial.stream) (g.S.Read.remaining l.stream);
  contents : Keeps (g.S.Write.contents l.initial.stream) (g.S.Write.contents l.stream);
  piece : length l.piece ≡ length l.initial.piece;
}
