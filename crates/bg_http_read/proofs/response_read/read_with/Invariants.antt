use Rattle.std.proofs.Common.{◌≡◌, IsTrue, length}
use Rattle.bg_http_read.specs.Streams.{Leaves}
use Rattle.bg_http_read.proofs.Pieces.{Came}
use Rattle.bg_http_read.proofs.response_read.read_with.Given as goal

abbrev pub invariant-loop : goal.invariant-loop
invariant-loop g l = record {
  came : Leaves (Came l.parser.seen) (g.S.Read.remaining l.initial.stream) (g.S.Read.remaining l.stream);
  request : l.parser.request ≡ l.initial.parser.request;
  goes_on : IsTrue l.parser.is_open;
  size : length l.piece ≡ 8192;
}
