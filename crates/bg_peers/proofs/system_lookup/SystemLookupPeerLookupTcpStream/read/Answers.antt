use Rattle.std.proofs.Common.{◌≡◌, ◌+◌, [], ◌∷◌, ◌++◌, get_or, subst, sym, take}
use Rattle.std.proofs.lemmas.List.{take_more}
use Rattle.std.proofs.lemmas.Slice.Zip.{all_zipped_more}
use Rattle.std.specs.List.{AllZip}
use Rattle.std.specs.Prelude.{⊤}
use Rattle.bg_peers.proofs.system_lookup.SystemLookupPeerLookupTcpStream.read.Goals as goal

pub loop-stream-preserved : goal.loop-stream-preserved
loop-stream-preserved c =
    let streams = c.args.streams.now in
    let index = c.loop-stream.stream-index in
    let before = c.loop-stream.sockets.items in
    let socket = c.in_ok-peer_socket.field-0 in
    let any = c.in-Some.first.now in
    let pushed : c.push.new.self.items ≡ before ++ socket ∷ [] = c.in_ok-push.ensures.items in
    let more : take (index + 1) streams ≡ take index streams ++ get_or streams index any ∷ [] =
    take_more streams index any c.loop-stream-test.true in
    subst (λ sockets. AllZip (λ _ _. ⊤) (take (index + 1) streams) sockets) (sym pushed)
    (subst (λ told. AllZip (λ _ _. ⊤) told (before ++ socket ∷ [])) (sym more)
    (all_zipped_more (λ _ _. ⊤) (take index streams) before (get_or streams index any) socket c.loop-stream.invariant tt))
