use Rattle.std.proofs.Common.{◌≡◌, IsTrue, length}
use Rattle.std.specs.Io.KnownBytes.{Keeps}
use Rattle.bg_http_read.specs.Streams.{Leaves}
use Rattle.bg_forward.proofs.Pieces.{Came}
use Rattle.bg_forward.proofs.forwarding.receive_rest.Given as goal

abbrev pub invariant-loop : goal.invariant-loop
invariant-loop g l = record {
  came : Leaves (Came l.initial.parser.seen l.parser.seen) (g.R.Read.remaining l.initial.reader) (g.R.Read.remaining l.reader);
  request : l.parser.request ≡ l.initial.parser.request;
  goes_on : IsTrue l.parser.is_open;
  seat : l.seat ≡ l.initial.seat;
  client : Keeps (g.S.Write.contents l.initial.client) (g.S.Write.contents l.client);
  size : length l.piece ≡ 16384;
}
