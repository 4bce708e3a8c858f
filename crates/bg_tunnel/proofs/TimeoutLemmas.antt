-- The time since the last byte of a tunnel.
use Rattle.std.proofs.Common.{◌≡◌, ◌∙◌, ◌+◌, ◌≤◌, ◌↔◌, ◌&&◌, ℕ, Bool, true, false, List, [], ◌∷◌, if◌then◌else◌, length, not, take, Some, is_some, refl, ap, sym, subst, arith}
use Rattle.std.proofs.Math.Seq.{take-nil}
use Rattle.std.proofs.lemmas.Bool.{le-leb, leb-true}
use Rattle.bg_tunnel.specs.Laws.{EndsInTime}
use Rattle.bg_tunnel.specs.Runs.{Calls, Runs, TunnelCall, ends_input, fails, feeds, lacks_memory, last_byte_by, last_byte_in, looks, shuts, takes}
use Rattle.bg_tunnel.specs.Tunnels.{TunnelState, moment_of, with_bytes_from, with_bytes_to, with_end_from, with_end_to, accepts, is_over, is_silent, is_to_shut, over, settled, to_write, waiting}
use Rattle.bg_tunnel.specs.declared.peer.Peer.{Peer}
use Rattle.bg_tunnel.specs.declared.peer.Peer.TheVariants as peer
use Rattle.bg_tunnel.specs.declared.tunnel_end.TunnelEnd.{TunnelEnd}
use Rattle.bg_tunnel.specs.declared.tunnel_end.TunnelEnd.TheVariants as end_is

-- the moment of the last byte, and the timeout
record Times (moment millis : ℕ) (new : TunnelState) : Type 0 where
  last_byte : new.last_byte ≡ moment
  timeout : new.timeout_millis ≡ millis

fed_times : (q : Peer) (old : TunnelState) (bytes : List ℕ) (now : ℕ) (b : Bool)
    → Times (if b then moment_of (length bytes) now old.last_byte else old.last_byte) old.timeout_millis
    (if b then with_bytes_from q bytes now old else old)
fed_times q old bytes now false = record { last_byte = refl; timeout = refl }
fed_times peer.Client old bytes now true = record { last_byte = refl; timeout = refl }
fed_times peer.Endpoint old bytes now true = record { last_byte = refl; timeout = refl }

taken_times : (q : Peer) (old : TunnelState) (count now : ℕ) (b : Bool)
    → Times (moment_of (length (take count (if b then [] else waiting q old))) now old.last_byte) old.timeout_millis
    (if b then old else with_bytes_to q count now old)
taken_times q old count now true = record { last_byte = ap (λ l. moment_of (length l) now old.last_byte) (sym (take-nil count)); timeout = refl }
taken_times peer.Client old count now false = record { last_byte = refl; timeout = refl }
taken_times peer.Endpoint old count now false = record { last_byte = refl; timeout = refl }

ended_times : (q : Peer) (old : TunnelState) (b : Bool)
    → Times old.last_byte old.timeout_millis (if b then old else with_end_from q old)
ended_times q old true = record { last_byte = refl; timeout = refl }
ended_times peer.Client old false = record { last_byte = refl; timeout = refl }
ended_times peer.Endpoint old false = record { last_byte = refl; timeout = refl }

over_times : (old : TunnelState) (how : TunnelEnd) (b : Bool) → Times old.last_byte old.timeout_millis (if b then over how old else old)
over_times old how true = record { last_byte = refl; timeout = refl }
over_times old how false = record { last_byte = refl; timeout = refl }

shut_times : (q : Peer) (old : TunnelState) (b : Bool)
    → Times old.last_byte old.timeout_millis (if b then settled (with_end_to q old) else old)
shut_times q old false = record { last_byte = refl; timeout = refl }
shut_times peer.Client old true =
    over_times (with_end_to peer.Client old) end_is.Whole (true && old.for_endpoint.is_shut)
shut_times peer.Endpoint old true =
    over_times (with_end_to peer.Endpoint old) end_is.Whole (old.for_client.is_shut && true)

failed_times : (q : Peer) (old : TunnelState) (b : Bool) → Times old.last_byte old.timeout_millis (if b then old else over (end_is.Failed q) old)
failed_times q old true = record { last_byte = refl; timeout = refl }
failed_times q old false = record { last_byte = refl; timeout = refl }

times : (old new : TunnelState) (call : TunnelCall) → Calls old call new → Times (last_byte_by old.last_byte call) old.timeout_millis new
times old new (feeds from bytes now accepted) is =
    subst (λ b. Times (if b then moment_of (length bytes) now old.last_byte else old.last_byte) old.timeout_millis new) (sym is.0)
    (subst (Times (if accepts from old then moment_of (length bytes) now old.last_byte else old.last_byte) old.timeout_millis) (sym is.1)
    (fed_times from old bytes now (accepts from old)))
times old new lacks_memory is = subst (Times old.last_byte old.timeout_millis) (sym is) (record { last_byte = refl; timeout = refl })
times old new (takes to count now bytes) is =
    subst (λ l. Times (moment_of (length l) now old.last_byte) old.timeout_millis new) (sym is.0)
    (subst (Times (moment_of (length (take count (to_write to old))) now old.last_byte) old.timeout_millis) (sym is.1) (taken_times to old count now (is_over old)))
times old new (ends_input from) is = subst (Times old.last_byte old.timeout_millis) (sym is) (ended_times from old (is_over old))
times old new (shuts to was_due) is = subst (Times old.last_byte old.timeout_millis) (sym is.1) (shut_times to old (is_to_shut to old))
times old new (fails at) is = subst (Times old.last_byte old.timeout_millis) (sym is) (failed_times at old (is_over old))
times old new (looks now) is =
    subst (Times old.last_byte old.timeout_millis) (sym is) (over_times old end_is.Silent (not (is_over old) && is_silent now old))

times_after : (calls : List TunnelCall) (old new : TunnelState) → Runs old calls new → Times (last_byte_in old.last_byte calls) old.timeout_millis new
times_after [] old new is = record {
  last_byte = ap (λ (t : TunnelState). t.last_byte) (sym is);
  timeout = ap (λ (t : TunnelState). t.timeout_millis) (sym is);
}
times_after (call ∷ more) old new is =
    let first = times old is.0 call is.2 in
    let others = times_after more is.0 new is.3 in
    record {
      last_byte = others.last_byte ∙ ap (λ m. last_byte_in m more) first.last_byte;
      timeout = others.timeout ∙ first.timeout;
    }

-- a look at an open tunnel
silent_at : (tunnel : TunnelState) (now : ℕ) (b : Bool) → is_silent now tunnel ≡ b → is_over tunnel ≡ false
    → ((if b then over end_is.Silent tunnel else tunnel).ending ≡ Some end_is.Silent)
    ↔ (tunnel.last_byte + tunnel.timeout_millis ≤ now)
silent_at tunnel now true is is_open = (λ silent. leb-true (tunnel.last_byte + tunnel.timeout_millis) now is, λ passed. refl)
silent_at tunnel now false is is_open = (
  λ silent. let over_then = ap is_some silent in absurd (cc),
  λ passed. let yes = le-leb (tunnel.last_byte + tunnel.timeout_millis) now passed in absurd (cc),
)

pub ends_in_time : (calls : List TunnelCall) (old new : TunnelState) (now : ℕ) → EndsInTime old calls new now
ends_in_time calls old new now is is_open =
    let known = times_after calls old new is in
    let by_state = silent_at new now (is_silent now new) refl is_open in
    let test : (not (is_over new) && is_silent now new) ≡ is_silent now new = ap (λ b. not b && is_silent now new) is_open in
    let same = ap (λ b. (if b then over end_is.Silent new else new).ending) test in (
      λ silent. let passed = by_state.0 (sym same ∙ silent) in omega (arith, passed, known.last_byte, known.timeout),
      λ passed. same ∙ by_state.1 (omega (arith, passed, known.last_byte, known.timeout)),
    )
