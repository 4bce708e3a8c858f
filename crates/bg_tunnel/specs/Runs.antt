-- The calls of a tunnel, one after the other.
use Rattle.std.specs.Prelude.{◌≡◌, ℕ, Bool, true, List, [], ◌∷◌, ◌++◌, if◌then◌else◌, ◌≤◌, length, take, ⊤}
use Rattle.bg_tunnel.specs.Tunnels.{TunnelState, accepts, end_passed, failed, fed, input_ended, is_to_shut, looked, moment_of, taken, to_write, wants_input}
use Rattle.bg_tunnel.specs.declared.peer.Peer.{Peer}
use Rattle.bg_tunnel.specs.declared.peer.Peer.TheVariants as peer

-- a call, with what it was given and what it gave
pub data TunnelCall : Type 0 where
  -- the peer that the bytes came from, the bytes, a moment, and whether they were accepted
  feeds : Peer → List ℕ → ℕ → Bool → TunnelCall
  -- bytes came from a peer, and there was no memory for them
  lacks_memory : TunnelCall
  -- the peer that took bytes, the number that was told, a moment, and the bytes that it took so
  takes : Peer → ℕ → ℕ → List ℕ → TunnelCall
  ends_input : Peer → TunnelCall
  -- the peer whose connection was shut, and whether it was to be
  shuts : Peer → Bool → TunnelCall
  fails : Peer → TunnelCall
  looks : ℕ → TunnelCall

-- what the call says of the tunnel before and after it, by its contract
abbrev pub Calls : TunnelState → TunnelCall → TunnelState → Type 0
Calls old (feeds peer bytes now accepted) new = (accepted ≡ accepts peer old) × (new ≡ fed peer bytes now old)
Calls old lacks_memory new = new ≡ old
Calls old (takes peer count now bytes) new = (bytes ≡ take count (to_write peer old)) × (new ≡ taken peer count now old)
Calls old (ends_input peer) new = new ≡ input_ended peer old
Calls old (shuts peer was_due) new = (was_due ≡ is_to_shut peer old) × (new ≡ end_passed peer old)
Calls old (fails peer) new = new ≡ failed peer old
Calls old (looks now) new = new ≡ looked now old

-- these calls, one after the other, each of them made as the rule says of it and of the tunnel before it
abbrev pub RunsBy : (TunnelState → TunnelCall → Type 0) → TunnelState → List TunnelCall → TunnelState → Type 0
RunsBy Rule old [] new = old ≡ new
RunsBy Rule old (call ∷ more) new =
    (between : TunnelState) × Rule old call × Calls old call between × RunsBy Rule between more new

-- any calls
abbrev pub Runs : TunnelState → List TunnelCall → TunnelState → Type 0
Runs old calls new = RunsBy (λ tunnel call. ⊤) old calls new

-- the bytes, if the two are one peer
abbrev pub if_same : Peer → Peer → List ℕ → List ℕ
if_same peer.Client peer.Client bytes = bytes
if_same peer.Endpoint peer.Endpoint bytes = bytes
if_same one other bytes = []

-- the bytes that came from a peer and were accepted, by a call, and by calls in their sequence
abbrev pub sent_by : Peer → TunnelCall → List ℕ
sent_by peer (feeds from bytes now accepted) = if accepted then if_same peer from bytes else []
sent_by peer other = []

abbrev pub sent_in : Peer → List TunnelCall → List ℕ
sent_in peer [] = []
sent_in peer (call ∷ more) = sent_by peer call ++ sent_in peer more

-- the bytes that a peer took
abbrev pub taken_by : Peer → TunnelCall → List ℕ
taken_by peer (takes to count now bytes) = if_same peer to bytes
taken_by peer other = []

abbrev pub taken_in : Peer → List TunnelCall → List ℕ
taken_in peer [] = []
taken_in peer (call ∷ more) = taken_by peer call ++ taken_in peer more

-- the moment of the last byte that came or was taken, after a call and after calls
abbrev pub last_byte_by : ℕ → TunnelCall → ℕ
last_byte_by before (feeds from bytes now accepted) = if accepted then moment_of (length bytes) now before else before
last_byte_by before (takes to count now bytes) = moment_of (length bytes) now before
last_byte_by before other = before

abbrev pub last_byte_in : ℕ → List TunnelCall → ℕ
last_byte_in before [] = before
last_byte_in before (call ∷ more) = last_byte_in (last_byte_by before call) more

-- bytes are fed only while the tunnel is to read them, and at most so many at once
abbrev pub IsFedWithinBounds : ℕ → TunnelState → TunnelCall → Type 0
IsFedWithinBounds most tunnel (feeds peer bytes now accepted) = (wants_input peer tunnel ≡ true) × (length bytes ≤ most)
IsFedWithinBounds most tunnel other = ⊤
