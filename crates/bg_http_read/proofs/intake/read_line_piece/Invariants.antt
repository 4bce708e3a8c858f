use Rattle.std.proofs.Common.{◌≡◌, ◌≤◌, length, take}
use Rattle.std.specs.Io.KnownBytes.{Consumes, Keeps}
use Rattle.bg_http_read.proofs.intake.read_line_piece.Given as goal

abbrev pub invariant-loop : goal.invariant-loop
invariant-loop g l = record {
  bytes : Consumes (g.S.Read.remaining l.initial.stream) (g.S.Read.remaining l.stream) (take l.count l.piece);
  kept : Keeps (g.S.Write.contents l.initial.stream) (g.S.Write.contents l.stream);
  size : length l.piece ≡ length l.initial.piece;
  fits : l.count ≤ length l.piece;
}
