-- The bytes for a peer, over all calls of a tunnel.
use Rattle.std.proofs.Common.{◌≡◌, ◌∙◌, ◌⊎◌, inl, inr, ◌+◌, ◌-◌, ◌^◌, ◌<◌, ◌≤◌, ℕ, true, false, List, [], ◌∷◌, ◌++◌, length, min, take, drop, refl, ap, sym, subst, arith, append-nil, append_assoc}
use Rattle.std.proofs.Math.Seq.{drop-nil}
use Rattle.std.proofs.lemmas.List.{length-append, length-drop, take-append-drop}
use Rattle.bg_tunnel.specs.Directions.{DirectionState}
use Rattle.bg_tunnel.specs.Laws.{CountsBytes, EndsAfterAll, HoldsFew, IsBegin, PassesInOrder}
use Rattle.bg_tunnel.specs.Peers.{other}
use Rattle.bg_tunnel.specs.Runs.{IsFedWithinBounds, Runs, TunnelCall, sent_by, sent_in, taken_by, taken_in}
use Rattle.bg_tunnel.specs.Tunnels.{TunnelState, direction, waiting}
use Rattle.bg_tunnel.specs.declared.peer.Peer.{Peer}
use Rattle.bg_tunnel.specs.declared.peer.Peer.TheVariants as peer
use Rattle.bg_tunnel.specs.declared.tunnel.TheConstants.{WINDOW}
use Rattle.bg_tunnel.proofs.StepLemmas.{Change, NoByte, change, closes, ends, grows, shrinks, stays}

-- ---- the order of the bytes

-- what a peer took by a call, and what waits then, is what waited, and what came
abbrev InOrder : Peer → TunnelState → TunnelCall → TunnelState → Type 0
InOrder p old call new = taken_by p call ++ waiting p new ≡ waiting p old ++ sent_by (other p) call

no_byte : (p : Peer) (old : TunnelState) (call : TunnelCall) (new : TunnelState) → waiting p new ≡ waiting p old
    → NoByte p call → InOrder p old call new
no_byte p old call new same none =
    ap (λ l. l ++ waiting p new) none.none_taken ∙ same ∙ sym (append-nil (waiting p old))
    ∙ ap (λ l. waiting p old ++ l) (sym none.none_sent)

in_order : (p : Peer) (old : TunnelState) (call : TunnelCall) (new : TunnelState) → Change p old call new → InOrder p old call new
in_order p old call new (stays is none) = no_byte p old call new (ap (λ (d : DirectionState). d.waiting) is) none
in_order p old call new (ends is none) = no_byte p old call new (ap (λ (d : DirectionState). d.waiting) is) none
in_order p old call new (closes shut none) = no_byte p old call new (ap (λ (d : DirectionState). d.waiting) shut.is) none
in_order p old call new (grows more) =
    ap (λ l. l ++ waiting p new) more.none_taken ∙ ap (λ (d : DirectionState). d.waiting) more.is
    ∙ ap (λ l. waiting p old ++ l) (sym more.sent)
in_order p old call new (shrinks took) =
    ap (λ l. l ++ waiting p new) took.taken_is
    ∙ ap (λ (d : DirectionState). take took.count (waiting p old) ++ d.waiting) took.is
    ∙ take-append-drop took.count (waiting p old) ∙ sym (append-nil (waiting p old))
    ∙ ap (λ l. waiting p old ++ l) (sym took.none_sent)

-- two steps in order are in order together
both_in_order : (first second before between after some more : List ℕ) → first ++ between ≡ before ++ some
    → second ++ after ≡ between ++ more → (first ++ second) ++ after ≡ before ++ (some ++ more)
both_in_order first second before between after some more one two =
    append_assoc first second after ∙ ap (λ l. first ++ l) two ∙ sym (append_assoc first between more)
    ∙ ap (λ l. l ++ more) one ∙ append_assoc before some more

pub passes_in_order : (p : Peer) (calls : List TunnelCall) (old new : TunnelState) → PassesInOrder p old calls new
passes_in_order p [] old new is = ap (waiting p) (sym is) ∙ sym (append-nil (waiting p old))
passes_in_order p (call ∷ more) old new is =
    both_in_order (taken_by p call) (taken_in p more) (waiting p old) (waiting p is.0) (waiting p new)
    (sent_by (other p) call) (sent_in (other p) more) (in_order p old call is.0 (change p old is.0 call is.2))
    (passes_in_order p more is.0 new is.3)

-- ---- how many bytes wait

abbrev Few : ℕ → Peer → TunnelState → TunnelState → Type 0
Few most p old new = (length (waiting p new) < WINDOW + most) ⊎ (length (waiting p new) ≤ length (waiting p old))

no_more : (most : ℕ) (p : Peer) (old new : TunnelState) → waiting p new ≡ waiting p old → Few most p old new
no_more most p old new same = let size = ap length same in inr (omega arith)

few : (most : ℕ) (p : Peer) (old : TunnelState) (call : TunnelCall) (new : TunnelState) → IsFedWithinBounds most old call
    → Change p old call new → Few most p old new
few most p old call new bounded (stays is none) = no_more most p old new (ap (λ (d : DirectionState). d.waiting) is)
few most p old call new bounded (ends is none) = no_more most p old new (ap (λ (d : DirectionState). d.waiting) is)
few most p old call new bounded (closes shut none) = no_more most p old new (ap (λ (d : DirectionState). d.waiting) shut.is)
few most p old call new bounded (grows more) =
    let bounds = more.in_bounds most bounded in
    let size = ap (λ (d : DirectionState). length d.waiting) more.is ∙ length-append (waiting p old) more.bytes in
    inl (omega (arith, bounds.0, bounds.1, size))
few most p old call new bounded (shrinks took) =
    let size = ap (λ (d : DirectionState). length d.waiting) took.is ∙ length-drop took.count (waiting p old) in
    inr (omega (arith, size))

both_few : (most : ℕ) (p : Peer) (old between new : TunnelState) → Few most p old between → Few most p between new
    → Few most p old new
both_few most p old between new first (inl less) = inl less
both_few most p old between new (inl less) (inr no_more) = inl (omega arith)
both_few most p old between new (inr no_more) (inr again) = inr (omega arith)

pub holds_few : (most : ℕ) (p : Peer) (calls : List TunnelCall) (old new : TunnelState) → HoldsFew most p old calls new
holds_few most p [] old new is = let size = ap (λ t. length (waiting p t)) is in inr (omega arith)
holds_few most p (call ∷ more) old new is =
    both_few most p old is.0 new (few most p old call is.0 is.1 (change p old is.0 call is.2)) (holds_few most p more is.0 new is.3)

-- ---- an end is passed on after all bytes

-- a direction that is shut has ended, and no byte waits
abbrev EmptyIfShut : DirectionState → Type 0
EmptyIfShut d = d.is_shut ≡ true → (d.has_ended ≡ true) × (d.waiting ≡ [])

still_empty : (p : Peer) (old : TunnelState) (call : TunnelCall) (new : TunnelState) → Change p old call new
    → EmptyIfShut (direction p old) → EmptyIfShut (direction p new)
still_empty p old call new (stays is none) h = subst EmptyIfShut (sym is) h
still_empty p old call new (ends is none) h = subst EmptyIfShut (sym is) (λ shut. (refl, (h shut).1))
still_empty p old call new (closes shut none) h = subst EmptyIfShut (sym shut.is) (λ now. (shut.has_ended, shut.none_waits))
still_empty p old call new (grows more) h =
    subst EmptyIfShut (sym more.is) (λ shut. let ended = (h shut).0 in let goes_on = more.goes_on in absurd (cc))
still_empty p old call new (shrinks took) h =
    subst EmptyIfShut (sym took.is) (λ shut. ((h shut).0, ap (drop took.count) (h shut).1 ∙ drop-nil took.count))

empty_if_shut : (p : Peer) (calls : List TunnelCall) (old new : TunnelState) → Runs old calls new → EmptyIfShut (direction p old)
    → EmptyIfShut (direction p new)
empty_if_shut p [] old new is h = subst (λ t. EmptyIfShut (direction p t)) is h
empty_if_shut p (call ∷ more) old new is h =
    empty_if_shut p more is.0 new is.3 (still_empty p old call is.0 (change p old is.0 call is.2) h)

-- no direction is shut at the begin, and none took a byte
record JustMade (d : DirectionState) : Type 0 where
  open_yet : d.is_shut ≡ false
  none_passed : d.passed ≡ 0

just_made : (p : Peer) (tunnel : TunnelState) → IsBegin tunnel → JustMade (direction p tunnel)
just_made peer.Client tunnel begin = record {
  open_yet = ap (λ (t : TunnelState). t.for_client.is_shut) begin;
  none_passed = ap (λ (t : TunnelState). t.for_client.passed) begin;
}
just_made peer.Endpoint tunnel begin = record {
  open_yet = ap (λ (t : TunnelState). t.for_endpoint.is_shut) begin;
  none_passed = ap (λ (t : TunnelState). t.for_endpoint.passed) begin;
}

pub ends_after_all : (p : Peer) (calls : List TunnelCall) (old new : TunnelState) → EndsAfterAll p old calls new
ends_after_all p calls old new begin is shut =
    let open_yet = (just_made p old begin).open_yet in
    let end = empty_if_shut p calls old new is (λ shut_then. absurd (cc (open_yet, shut_then))) shut in
    let order = passes_in_order p calls old new is in
    record {
      has_ended = end.0;
      none_waits = end.1;
      all_taken = sym (append-nil (taken_in p calls)) ∙ ap (λ l. taken_in p calls ++ l) (sym end.1) ∙ order;
    }

-- ---- the count of the bytes

no_count : (p : Peer) (n : ℕ) (old : TunnelState) (call : TunnelCall) (new : TunnelState)
    → (direction p new).passed ≡ (direction p old).passed → taken_by p call ≡ [] → (direction p old).passed ≡ min n (2 ^ 64 - 1)
    → (direction p new).passed ≡ min (n + length (taken_by p call)) (2 ^ 64 - 1)
no_count p n old call new same none h = let size = ap length none in omega (arith, same, size, h)

-- the count after a call
counts : (p : Peer) (n : ℕ) (old : TunnelState) (call : TunnelCall) (new : TunnelState) → Change p old call new
    → (direction p old).passed ≡ min n (2 ^ 64 - 1)
    → (direction p new).passed ≡ min (n + length (taken_by p call)) (2 ^ 64 - 1)
counts p n old call new (stays is none) h = no_count p n old call new (ap (λ (d : DirectionState). d.passed) is) none.none_taken h
counts p n old call new (ends is none) h = no_count p n old call new (ap (λ (d : DirectionState). d.passed) is) none.none_taken h
counts p n old call new (closes shut none) h =
    no_count p n old call new (ap (λ (d : DirectionState). d.passed) shut.is) none.none_taken h
counts p n old call new (grows more) h = no_count p n old call new (ap (λ (d : DirectionState). d.passed) more.is) more.none_taken h
counts p n old call new (shrinks took) h =
    let size = ap length took.taken_is in
    let passed = ap (λ (d : DirectionState). d.passed) took.is in
    omega (arith, size, passed, h)

counted_in : (p : Peer) (n : ℕ) (calls : List TunnelCall) (old new : TunnelState) → Runs old calls new
    → (direction p old).passed ≡ min n (2 ^ 64 - 1)
    → (direction p new).passed ≡ min (n + length (taken_in p calls)) (2 ^ 64 - 1)
counted_in p n [] old new is h = let same = ap (λ t. (direction p t).passed) is in omega (arith, same, h)
counted_in p n (call ∷ more) old new is h =
    let first = counts p n old call is.0 (change p old is.0 call is.2) h in
    let others = counted_in p (n + length (taken_by p call)) more is.0 new is.3 first in
    let size = length-append (taken_by p call) (taken_in p more) in
    omega (arith, others, size)

pub counts_bytes : (p : Peer) (calls : List TunnelCall) (old new : TunnelState) → CountsBytes p old calls new
counts_bytes p calls old new begin is =
    let none = (just_made p old begin).none_passed in
    let all = counted_in p 0 calls old new is (omega (arith, none)) in
    omega (arith, all)
