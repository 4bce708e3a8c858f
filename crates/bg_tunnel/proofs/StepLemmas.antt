-- What a call makes of the bytes for one peer.
use Rattle.std.proofs.Common.{◌≡◌, ◌∙◌, ◌==◌, ◌<◌, ◌≤◌, ◌&&◌, ℕ, Bool, true, false, List, [], ◌∷◌, if◌then◌else◌, length, nat_lt, not, take, refl, ap, sym, subst, arith}
use Rattle.std.proofs.Math.Seq.{take-nil}
use Rattle.std.proofs.lemmas.Bool.{and_parts, ltb-true}
use Rattle.bg_tunnel.specs.Directions.{ended, shut, with_more, with_taken}
use Rattle.bg_tunnel.specs.Peers.{other}
use Rattle.bg_tunnel.specs.Runs.{Calls, IsFedWithinBounds, TunnelCall, ends_input, fails, feeds, if_same, lacks_memory, looks, sent_by, shuts, taken_by, takes}
use Rattle.bg_tunnel.specs.Tunnels.{TunnelState, with_bytes_from, with_bytes_to, with_end_from, with_end_to, accepts, direction, is_over, is_silent, is_to_shut, over, settled, to_write, waiting}
use Rattle.bg_tunnel.specs.declared.peer.Peer.{Peer}
use Rattle.bg_tunnel.specs.declared.peer.Peer.TheVariants as peer
use Rattle.bg_tunnel.specs.declared.tunnel.TheConstants.{WINDOW}
use Rattle.bg_tunnel.specs.declared.tunnel_end.TunnelEnd.{TunnelEnd}
use Rattle.bg_tunnel.specs.declared.tunnel_end.TunnelEnd.TheVariants as end_is

-- no byte came for the peer, and it took none
pub record NoByte (named : Peer) (call : TunnelCall) : Type 0 where
  pub none_taken : taken_by named call ≡ []
  pub none_sent : sent_by (other named) call ≡ []

-- bytes came for the peer
pub record More (named : Peer) (old : TunnelState) (call : TunnelCall) (new : TunnelState) : Type 0 where
  pub bytes : List ℕ
  pub is : direction named new ≡ with_more bytes (direction named old)
  pub goes_on : (direction named old).has_ended ≡ false
  pub none_taken : taken_by named call ≡ []
  pub sent : sent_by (other named) call ≡ bytes
  pub in_bounds : (most : ℕ) → IsFedWithinBounds most old call → (length (waiting named old) < WINDOW) × (length bytes ≤ most)

-- the peer took bytes
pub record Took (named : Peer) (old : TunnelState) (call : TunnelCall) (new : TunnelState) : Type 0 where
  pub count : ℕ
  pub is : direction named new ≡ with_taken count (direction named old)
  pub taken_is : taken_by named call ≡ take count (waiting named old)
  pub none_sent : sent_by (other named) call ≡ []

-- the end was to be passed on, and was
pub record Shut (named : Peer) (old : TunnelState) (new : TunnelState) : Type 0 where
  pub is : direction named new ≡ shut (direction named old)
  pub has_ended : (direction named old).has_ended ≡ true
  pub none_waits : waiting named old ≡ []

-- what a call makes of the direction to a peer
pub data Change (named : Peer) (old : TunnelState) (call : TunnelCall) (new : TunnelState) : Type 0 where
  stays : direction named new ≡ direction named old → NoByte named call → Change named old call new
  grows : More named old call new → Change named old call new
  shrinks : Took named old call new → Change named old call new
  ends : direction named new ≡ ended (direction named old) → NoByte named call → Change named old call new
  closes : Shut named old new → NoByte named call → Change named old call new

none : {named : Peer} {call : TunnelCall} → taken_by named call ≡ [] → sent_by (other named) call ≡ [] → NoByte named call
none no_taken no_sent = record { none_taken = no_taken; none_sent = no_sent }

empty : (bytes : List ℕ) → (length bytes == 0) ≡ true → bytes ≡ []
empty [] is = refl
empty (byte ∷ bytes) is = grind arith

-- how a tunnel ended changes no direction
keeps_over : (named : Peer) (how : TunnelEnd) (tunnel : TunnelState) → direction named (over how tunnel) ≡ direction named tunnel
keeps_over peer.Client how tunnel = refl
keeps_over peer.Endpoint how tunnel = refl

keeps_settled : (named : Peer) (tunnel : TunnelState) → direction named (settled tunnel) ≡ direction named tunnel
keeps_settled named tunnel = go (tunnel.for_client.is_shut && tunnel.for_endpoint.is_shut)
  where
    go : (b : Bool) → direction named (if b then over end_is.Whole tunnel else tunnel) ≡ direction named tunnel
    go true = keeps_over named end_is.Whole tunnel
    go false = refl

pub not_true : (b : Bool) → not b ≡ true → b ≡ false
not_true true is = cc
not_true false is = refl

pub no_bytes : (p q : Peer) → if_same p q [] ≡ []
no_bytes peer.Client peer.Client = refl
no_bytes peer.Client peer.Endpoint = refl
no_bytes peer.Endpoint peer.Client = refl
no_bytes peer.Endpoint peer.Endpoint = refl

-- ---- bytes that came

same_peer : (from : Peer) (bytes : List ℕ) → if_same (other (other from)) from bytes ≡ bytes
same_peer peer.Client bytes = refl
same_peer peer.Endpoint bytes = refl

-- bytes came for one peer, and are the last ones that wait for it
grown : (old : TunnelState) (from : Peer) (bytes : List ℕ) (now : ℕ) (new : TunnelState)
    → direction (other from) new ≡ with_more bytes (direction (other from) old) → accepts from old ≡ true
    → More (other from) old (feeds from bytes now true) new
grown old from bytes now new is accepted =
    let has_ended = (direction (other from) old).has_ended in
    let size = length (waiting (other from) old) in
    record {
      bytes = bytes;
      is = is;
      goes_on = not_true has_ended (and_parts (not (is_over old)) (not has_ended) accepted).1;
      none_taken = refl;
      sent = same_peer from bytes;
      in_bounds = λ most bounded. (ltb-true size WINDOW (and_parts (accepts from old) (nat_lt size WINDOW) bounded.0).1, bounded.1);
    }

feeds_change : (p q : Peer) (old : TunnelState) (bytes : List ℕ) (now : ℕ) (b : Bool) → accepts q old ≡ b
    → Change p old (feeds q bytes now b)
    (if b then with_bytes_from q bytes now old else old)
feeds_change p q old bytes now false is = stays refl (none refl refl)
feeds_change peer.Client peer.Client old bytes now true is = stays refl (none refl refl)
feeds_change peer.Endpoint peer.Endpoint old bytes now true is = stays refl (none refl refl)
feeds_change peer.Client peer.Endpoint old bytes now true is = grows (grown old peer.Endpoint bytes now _ refl is)
feeds_change peer.Endpoint peer.Client old bytes now true is = grows (grown old peer.Client bytes now _ refl is)

-- ---- the other calls

takes_change : (p q : Peer) (old : TunnelState) (count now : ℕ) (b : Bool)
    → Change p old (takes q count now (take count (if b then [] else waiting q old)))
    (if b then old else with_bytes_to q count now old)
takes_change p q old count now true = stays refl (none (ap (if_same p q) (take-nil count) ∙ no_bytes p q) refl)
takes_change peer.Client peer.Client old count now false = shrinks (record { count = count; is = refl; taken_is = refl; none_sent = refl })
takes_change peer.Endpoint peer.Endpoint old count now false = shrinks (record { count = count; is = refl; taken_is = refl; none_sent = refl })
takes_change peer.Client peer.Endpoint old count now false = stays refl (none refl refl)
takes_change peer.Endpoint peer.Client old count now false = stays refl (none refl refl)

ends_change : (p q : Peer) (old : TunnelState) (b : Bool)
    → Change p old (ends_input q) (if b then old else with_end_from q old)
ends_change p q old true = stays refl (none refl refl)
ends_change peer.Client peer.Client old false = stays refl (none refl refl)
ends_change peer.Endpoint peer.Endpoint old false = stays refl (none refl refl)
ends_change peer.Client peer.Endpoint old false = ends refl (none refl refl)
ends_change peer.Endpoint peer.Client old false = ends refl (none refl refl)

-- what is known of a tunnel whose end is to be passed on to a peer
pub record IsDue (named : Peer) (tunnel : TunnelState) : Type 0 where
  pub is_open : is_over tunnel ≡ false
  pub has_ended : (direction named tunnel).has_ended ≡ true
  pub none_waits : waiting named tunnel ≡ []

pub is_due : (named : Peer) (tunnel : TunnelState) → is_to_shut named tunnel ≡ true → IsDue named tunnel
is_due named tunnel is =
    let d = direction named tunnel in
    let first = and_parts (not (is_over tunnel) && d.has_ended && (length d.waiting == 0)) (not d.is_shut) is in
    let second = and_parts (not (is_over tunnel) && d.has_ended) (length d.waiting == 0) first.0 in
    let third = and_parts (not (is_over tunnel)) d.has_ended second.0 in
    record { is_open = not_true (is_over tunnel) third.0; has_ended = third.1; none_waits = empty d.waiting second.1 }

shuts_change : (p q : Peer) (old : TunnelState) (was_due b : Bool) → is_to_shut q old ≡ b
    → Change p old (shuts q was_due) (if b then settled (with_end_to q old) else old)
shuts_change p q old was_due false is = stays refl (none refl refl)
shuts_change peer.Client peer.Client old was_due true is =
    let due = is_due peer.Client old is in
    closes (record { is = keeps_settled peer.Client (with_end_to peer.Client old); has_ended = due.has_ended; none_waits = due.none_waits }) (none refl refl)
shuts_change peer.Endpoint peer.Endpoint old was_due true is =
    let due = is_due peer.Endpoint old is in
    closes (record { is = keeps_settled peer.Endpoint (with_end_to peer.Endpoint old); has_ended = due.has_ended; none_waits = due.none_waits }) (none refl refl)
shuts_change peer.Client peer.Endpoint old was_due true is = stays (keeps_settled peer.Client (with_end_to peer.Endpoint old)) (none refl refl)
shuts_change peer.Endpoint peer.Client old was_due true is = stays (keeps_settled peer.Endpoint (with_end_to peer.Client old)) (none refl refl)

over_change : (p : Peer) (call : TunnelCall) (old : TunnelState) (how : TunnelEnd) (b : Bool) → NoByte p call
    → Change p old call (if b then over how old else old)
over_change p call old how true no_byte = stays (keeps_over p how old) no_byte
over_change p call old how false no_byte = stays refl no_byte

pub change : (named : Peer) (old new : TunnelState) (call : TunnelCall) → Calls old call new → Change named old call new
change named old new (feeds from bytes now accepted) is =
    subst (λ b. Change named old (feeds from bytes now b) new) (sym is.0)
    (subst (Change named old (feeds from bytes now (accepts from old))) (sym is.1)
    (feeds_change named from old bytes now (accepts from old) refl))
change named old new lacks_memory is = stays (ap (direction named) is) (none refl refl)
change named old new (takes to count now bytes) is =
    subst (λ l. Change named old (takes to count now l) new) (sym is.0)
    (subst (Change named old (takes to count now (take count (to_write to old)))) (sym is.1)
    (takes_change named to old count now (is_over old)))
change named old new (ends_input from) is =
    subst (Change named old (ends_input from)) (sym is) (ends_change named from old (is_over old))
change named old new (shuts to was_due) is =
    subst (Change named old (shuts to was_due)) (sym is.1) (shuts_change named to old was_due (is_to_shut to old) refl)
change named old new (fails at) is =
    subst (Change named old (fails at)) (sym is) (go (is_over old))
  where
    go : (b : Bool) → Change named old (fails at) (if b then old else over (end_is.Failed at) old)
    go true = over_change named (fails at) old (end_is.Failed at) false (none refl refl)
    go false = over_change named (fails at) old (end_is.Failed at) true (none refl refl)
change named old new (looks now) is =
    subst (Change named old (looks now)) (sym is)
    (over_change named (looks now) old end_is.Silent (not (is_over old) && is_silent now old) (none refl refl))
