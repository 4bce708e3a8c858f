-- The end of a tunnel.
use Rattle.std.proofs.Common.{◌≡◌, ◌∙◌, ◌==◌, ◌&&◌, ℕ, Bool, true, false, List, [], ◌∷◌, ◌++◌, if◌then◌else◌, length, not, take, Some, is_some, refl, ap, sym, subst}
use Rattle.std.proofs.Math.Seq.{take-nil}
use Rattle.std.proofs.lemmas.Bool.{and_from, and_left, and_parts}
use Rattle.bg_tunnel.specs.Laws.{AreShut, IsBegin, IsWholeIfShut, StaysOver, WholeIsAll}
use Rattle.bg_tunnel.specs.Peers.{other}
use Rattle.bg_tunnel.specs.Runs.{Calls, Runs, TunnelCall, ends_input, fails, feeds, if_same, lacks_memory, looks, sent_by, sent_in, shuts, taken_by, taken_in, takes}
use Rattle.bg_tunnel.specs.Tunnels.{TunnelState, with_bytes_from, with_bytes_to, with_end_from, with_end_to, accepts, direction, fed, input_ended, is_over, is_silent, is_to_shut, over, settled, taken, waiting}
use Rattle.bg_tunnel.specs.declared.peer.Peer.{Peer}
use Rattle.bg_tunnel.specs.declared.peer.Peer.TheVariants as peer
use Rattle.bg_tunnel.specs.declared.tunnel_end.TunnelEnd.{TunnelEnd}
use Rattle.bg_tunnel.specs.declared.tunnel_end.TunnelEnd.TheVariants as end_is
use Rattle.bg_tunnel.proofs.RunLemmas.{ends_after_all}
use Rattle.bg_tunnel.proofs.StepLemmas.{is_due, no_bytes, not_true}

-- ---- a tunnel that is over stays as it is

-- a call changed nothing, and no byte of the peer came, and it took none
record Nothing (p : Peer) (old : TunnelState) (call : TunnelCall) (new : TunnelState) : Type 0 where
  same : new ≡ old
  none_sent : sent_by p call ≡ []
  none_taken : taken_by p call ≡ []

nothing : (p : Peer) (old new : TunnelState) (call : TunnelCall) → Calls old call new → is_over old ≡ true → Nothing p old call new
nothing p old new (feeds from bytes now accepted) is over_is =
    let closed : accepts from old ≡ false = and_left (not (is_over old)) (not (direction (other from) old).has_ended) (ap not over_is) in
    record {
      same = is.1 ∙ ap (λ b. if b
          then with_bytes_from from bytes now old
          else old) closed;
      none_sent = ap (λ b. if b then if_same p from bytes else []) (is.0 ∙ closed);
      none_taken = refl;
    }
nothing p old new lacks_memory is over_is = record { same = is; none_sent = refl; none_taken = refl }
nothing p old new (takes to count now bytes) is over_is = record {
  same = is.1 ∙ ap (λ b. if b
      then old
      else with_bytes_to to count now old) over_is;
  none_sent = refl;
  none_taken = ap (if_same p to)
      (is.0 ∙ ap (λ b. take count (if b then [] else waiting to old)) over_is ∙ take-nil count) ∙ no_bytes p to;
}
nothing p old new (ends_input from) is over_is = record {
  same = is ∙ ap (λ b. if b then old else with_end_from from old) over_is;
  none_sent = refl;
  none_taken = refl;
}
nothing p old new (shuts to was_due) is over_is =
    let d = direction to old in
    let none_due : is_to_shut to old ≡ false =
    and_left (not (is_over old) && d.has_ended && (length d.waiting == 0)) (not d.is_shut)
    (and_left (not (is_over old) && d.has_ended) (length d.waiting == 0) (and_left (not (is_over old)) d.has_ended (ap not over_is))) in
    record {
      same = is.1 ∙ ap (λ b. if b then settled (with_end_to to old) else old) none_due;
      none_sent = refl;
      none_taken = refl;
    }
nothing p old new (fails at) is over_is = record {
  same = is ∙ ap (λ b. if b then old else over (end_is.Failed at) old) over_is;
  none_sent = refl;
  none_taken = refl;
}
nothing p old new (looks now) is over_is = record {
  same = is ∙ ap (λ b. if b then over end_is.Silent old else old)
      (and_left (not (is_over old)) (is_silent now old) (ap not over_is));
  none_sent = refl;
  none_taken = refl;
}

pub stays_over : (p : Peer) (calls : List TunnelCall) (old new : TunnelState) → StaysOver p old calls new
stays_over p [] old new is over_is = (sym is, refl, refl)
stays_over p (call ∷ more) old new is over_is =
    let first = nothing p old is.0 call is.2 over_is in
    let others = stays_over p more is.0 new is.3 (ap is_over first.same ∙ over_is) in (
      others.0 ∙ first.same,
      ap (λ l. l ++ sent_in p more) first.none_sent ∙ others.1,
      ap (λ l. l ++ taken_in p more) first.none_taken ∙ others.2,
    )

-- ---- a tunnel is whole exactly if both ends were passed on

pub record Exact (tunnel : TunnelState) : Type 0 where
  pub are_shut : tunnel.ending ≡ Some end_is.Whole → AreShut tunnel
  pub is_whole : AreShut tunnel → tunnel.ending ≡ Some end_is.Whole

-- neither the end nor what was shut has changed
record SameEnds (old new : TunnelState) : Type 0 where
  ending : new.ending ≡ old.ending
  client : new.for_client.is_shut ≡ old.for_client.is_shut
  endpoint : new.for_endpoint.is_shut ≡ old.for_endpoint.is_shut

exact_too : (old new : TunnelState) → SameEnds old new → Exact old → Exact new
exact_too old new same exact = record {
  are_shut = λ whole.
      let shut_then = exact.are_shut (sym same.ending ∙ whole) in (same.client ∙ shut_then.0, same.endpoint ∙ shut_then.1);
  is_whole = λ shut_now. same.ending ∙ exact.is_whole (sym same.client ∙ shut_now.0, sym same.endpoint ∙ shut_now.1);
}

fed_ends : (q : Peer) (old : TunnelState) (bytes : List ℕ) (now : ℕ) (b : Bool)
    → SameEnds old (if b then with_bytes_from q bytes now old else old)
fed_ends q old bytes now false = record { ending = refl; client = refl; endpoint = refl }
fed_ends peer.Client old bytes now true = record { ending = refl; client = refl; endpoint = refl }
fed_ends peer.Endpoint old bytes now true = record { ending = refl; client = refl; endpoint = refl }

taken_ends : (q : Peer) (old : TunnelState) (count now : ℕ) (b : Bool)
    → SameEnds old (if b then old else with_bytes_to q count now old)
taken_ends q old count now true = record { ending = refl; client = refl; endpoint = refl }
taken_ends peer.Client old count now false = record { ending = refl; client = refl; endpoint = refl }
taken_ends peer.Endpoint old count now false = record { ending = refl; client = refl; endpoint = refl }

input_ends : (q : Peer) (old : TunnelState) (b : Bool)
    → SameEnds old (if b then old else with_end_from q old)
input_ends q old true = record { ending = refl; client = refl; endpoint = refl }
input_ends peer.Client old false = record { ending = refl; client = refl; endpoint = refl }
input_ends peer.Endpoint old false = record { ending = refl; client = refl; endpoint = refl }

-- an open tunnel with this end, of which not both ends were passed on
other_end : (old : TunnelState) (how : TunnelEnd) → (how ≡ end_is.Whole → ⊥) → is_over old ≡ false → Exact old → Exact (over how old)
other_end old how not_whole is_open exact = record {
  are_shut = λ whole. absurd (not_whole cc);
  is_whole = λ shut_now. let over_then = ap is_some (exact.is_whole shut_now) in absurd (cc);
}

settled_exact : (tunnel : TunnelState) → is_over tunnel ≡ false → Exact (settled tunnel)
settled_exact tunnel is_open = go (tunnel.for_client.is_shut && tunnel.for_endpoint.is_shut) refl
  where
    go : (b : Bool) → (tunnel.for_client.is_shut && tunnel.for_endpoint.is_shut) ≡ b
        → Exact (if b then over end_is.Whole tunnel else tunnel)
    go true both = record {
      are_shut = λ whole. and_parts tunnel.for_client.is_shut tunnel.for_endpoint.is_shut both;
      is_whole = λ shut_now. refl;
    }
    go false both = record {
      are_shut = λ whole. let over_then = ap is_some whole in absurd (cc);
      is_whole = λ shut_now.
          let yes = and_from tunnel.for_client.is_shut tunnel.for_endpoint.is_shut shut_now.0 shut_now.1 in absurd (cc);
    }

shut_open : (q : Peer) (old : TunnelState) → is_over old ≡ false → is_over (with_end_to q old) ≡ false
shut_open peer.Client old is_open = is_open
shut_open peer.Endpoint old is_open = is_open

shut_ends : (q : Peer) (old : TunnelState) (b : Bool) → is_to_shut q old ≡ b → Exact old
    → Exact (if b then settled (with_end_to q old) else old)
shut_ends q old false is exact = exact
shut_ends q old true is exact = settled_exact (with_end_to q old) (shut_open q old (is_due q old is).is_open)

failed_ends : (q : Peer) (old : TunnelState) (b : Bool) → is_over old ≡ b → Exact old
    → Exact (if b then old else over (end_is.Failed q) old)
failed_ends q old true is exact = exact
failed_ends q old false is exact = other_end old (end_is.Failed q) (λ same. cc) is exact

silent_ends : (old : TunnelState) (now : ℕ) (b : Bool) → (not (is_over old) && is_silent now old) ≡ b → Exact old
    → Exact (if b then over end_is.Silent old else old)
silent_ends old now false is exact = exact
silent_ends old now true is exact =
    other_end old end_is.Silent (λ same. cc) (not_true (is_over old) (and_parts (not (is_over old)) (is_silent now old) is).0) exact

exact_on : (old new : TunnelState) (call : TunnelCall) → Calls old call new → Exact old → Exact new
exact_on old new (feeds from bytes now accepted) is exact =
    subst Exact (sym is.1) (exact_too old (fed from bytes now old) (fed_ends from old bytes now (accepts from old)) exact)
exact_on old new lacks_memory is exact = subst Exact (sym is) exact
exact_on old new (takes to count now bytes) is exact =
    subst Exact (sym is.1) (exact_too old (taken to count now old) (taken_ends to old count now (is_over old)) exact)
exact_on old new (ends_input from) is exact =
    subst Exact (sym is) (exact_too old (input_ended from old) (input_ends from old (is_over old)) exact)
exact_on old new (shuts to was_due) is exact = subst Exact (sym is.1) (shut_ends to old (is_to_shut to old) refl exact)
exact_on old new (fails at) is exact = subst Exact (sym is) (failed_ends at old (is_over old) refl exact)
exact_on old new (looks now) is exact =
    subst Exact (sym is) (silent_ends old now (not (is_over old) && is_silent now old) refl exact)

pub exact_after : (calls : List TunnelCall) (old new : TunnelState) → Runs old calls new → Exact old → Exact new
exact_after [] old new is exact = subst Exact is exact
exact_after (call ∷ more) old new is exact = exact_after more is.0 new is.3 (exact_on old is.0 call is.2 exact)

pub exact_first : (tunnel : TunnelState) → IsBegin tunnel → Exact tunnel
exact_first tunnel begin =
    let none = ap (λ (t : TunnelState). t.ending) begin in
    let open_yet = ap (λ (t : TunnelState). t.for_client.is_shut) begin in
    record { are_shut = λ whole. absurd (cc (none, whole)); is_whole = λ shut_now. absurd (cc (shut_now.0)) }

pub whole_if_shut : (calls : List TunnelCall) (old new : TunnelState) → IsWholeIfShut old calls new
whole_if_shut calls old new begin is =
    let exact = exact_after calls old new is (exact_first old begin) in (exact.are_shut, exact.is_whole)

pub whole_is_all : (p : Peer) (calls : List TunnelCall) (old new : TunnelState) → WholeIsAll p old calls new
whole_is_all p calls old new begin is whole =
    ends_after_all p calls old new begin is (at p ((exact_after calls old new is (exact_first old begin)).are_shut whole))
  where
    at : (q : Peer) → AreShut new → (direction q new).is_shut ≡ true
    at peer.Client shut_now = shut_now.0
    at peer.Endpoint shut_now = shut_now.1
