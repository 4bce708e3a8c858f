use Rattle.std.proofs.Common.{◌≡◌, ◌+◌, [], ◌∷◌, ◌++◌, get_or, subst, sym, take}
use Rattle.std.proofs.lemmas.List.{take_more}
use Rattle.std.proofs.lemmas.Slice.Zip.{all_zipped_more}
use Rattle.std.specs.List.{AllZip}
use Rattle.std.specs.Prelude.{⊤}
use Rattle.bg_peers.proofs.confirmed.tests.FakeLookupPeerLookupTold.read.Goals as goal

pub loop-told-preserved : goal.loop-told-preserved
loop-told-preserved c =
    let streams = c.args.streams.now in
    let index = c.loop-told.told-index in
    let before = c.loop-told.sockets.items in
    let socket = c.socket.result in
    let pushed : c.push.new.self.items ≡ before ++ socket ∷ [] = c.in_ok-push.ensures.items in
    let more : take (index + 1) streams ≡ take index streams ++ get_or streams index (record { first = socket; second = socket }) ∷ [] =
    take_more streams index (record { first = socket; second = socket }) c.loop-told-test.true in
    subst (λ sockets. AllZip (λ _ _. ⊤) (take (index + 1) streams) sockets) (sym pushed)
    (subst (λ told. AllZip (λ _ _. ⊤) told (before ++ socket ∷ [])) (sym more)
    (all_zipped_more (λ _ _. ⊤) (take index streams) before (get_or streams index (record { first = socket; second = socket })) socket c.loop-told.invariant tt))
