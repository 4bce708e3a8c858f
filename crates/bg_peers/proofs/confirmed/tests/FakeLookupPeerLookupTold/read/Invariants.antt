use Rattle.std.proofs.Common.{take}
use Rattle.std.specs.List.{AllZip}
use Rattle.std.specs.Prelude.{⊤}
use Rattle.bg_peers.proofs.confirmed.tests.FakeLookupPeerLookupTold.read.Given as goal

-- so far something is told of each connection
abbrev pub invariant-loop-told : goal.invariant-loop-told
invariant-loop-told l = AllZip (λ _ _. ⊤) (take l.told-index l.streams) l.sockets.items
