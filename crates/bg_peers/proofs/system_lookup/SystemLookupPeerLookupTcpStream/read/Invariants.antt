use Rattle.std.proofs.Common.{take}
use Rattle.std.specs.List.{AllZip}
use Rattle.std.specs.Prelude.{⊤}
use Rattle.bg_peers.proofs.system_lookup.SystemLookupPeerLookupTcpStream.read.Given as goal

-- so far something is told of each connection
abbrev pub invariant-loop-stream : goal.invariant-loop-stream
invariant-loop-stream l = AllZip (λ _ _. ⊤) (take l.stream-index l.streams) l.sockets.items
