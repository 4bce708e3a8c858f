use Rattle.std.proofs.Common.{◌≡◌, IsTrue, length}
use Rattle.bg_http_read.specs.Streams.{Leaves}
use Rattle.bg_http_read.specs.Requests.{WritesContinue}
use Rattle.bg_http_read.specs.RequestPieces.{OwesIf}
use Rattle.bg_http_read.proofs.Pieces.{Came}
use Rattle.bg_http_read.proofs.request_read.read_with.Given as goal

abbrev pub invariant-loop : goal.invariant-loop
invariant-loop g l = record {
  came : Leaves (Came l.parser.seen) (g.S.Read.remaining l.initial.stream) (g.S.Read.remaining l.stream);
  goes_on : IsTrue l.parser.is_open;
  wrote : WritesContinue l.parser.asked (g.S.Write.contents l.initial.stream) (g.S.Write.contents l.stream);
  owed : OwesIf l.parser.asked l.parser.seen;
  size : length l.piece ≡ 4096;
}
