-- What a tunnel that is not over awaits.
use Rattle.std.proofs.Common.{◌≡◌, ◌∙◌, ◌⊎◌, inl, inr, ◌==◌, ◌&&◌, Bool, true, false, ℕ, List, [], ◌∷◌, if◌then◌else◌, length, nat_lt, not, is_some, refl, ap, sym, subst, arith}
use Rattle.bg_tunnel.specs.Laws.{Awaits, NeverStalls}
use Rattle.bg_tunnel.specs.Peers.{other}
use Rattle.bg_tunnel.specs.Runs.{TunnelCall}
use Rattle.bg_tunnel.specs.Tunnels.{TunnelState, direction, is_over, to_write, waiting}
use Rattle.bg_tunnel.specs.declared.peer.Peer.{Peer}
use Rattle.bg_tunnel.specs.declared.peer.Peer.TheVariants as peer
use Rattle.bg_tunnel.specs.declared.tunnel.TheConstants.{WINDOW}
use Rattle.bg_tunnel.proofs.EndLemmas.{exact_after, exact_first}

wants : (over_is ended_is : Bool) (bytes : List ℕ) → over_is ≡ false → ended_is ≡ false → bytes ≡ []
    → (not over_is && not ended_is && nat_lt (length bytes) WINDOW) ≡ true
wants false false [] is_open goes_on none = refl
wants true ended_is bytes is_open goes_on none = cc
wants false true bytes is_open goes_on none = cc
wants false false (byte ∷ bytes) is_open goes_on none = cc

is_shut_next : (over_is ended_is shut_is : Bool) (bytes : List ℕ) → over_is ≡ false → ended_is ≡ true → bytes ≡ [] → shut_is ≡ false
    → (not over_is && ended_is && (length bytes == 0) && not shut_is) ≡ true
is_shut_next false true false [] is_open has_ended none not_yet = refl
is_shut_next true ended_is shut_is bytes is_open has_ended none not_yet = cc
is_shut_next false false shut_is bytes is_open has_ended none not_yet = cc
is_shut_next false true true bytes is_open has_ended none not_yet = cc
is_shut_next false true false (byte ∷ bytes) is_open has_ended none not_yet = cc

-- a peer is awaited, or the end of the bytes for this one was passed on
awaited : (p q : Peer) (tunnel : TunnelState) → other q ≡ p → is_over tunnel ≡ false
    → ((named : Peer) × Awaits tunnel named) ⊎ ((direction p tunnel).is_shut ≡ true)
awaited p q tunnel same is_open = go (waiting p tunnel) (direction p tunnel).has_ended (direction p tunnel).is_shut refl refl refl
  where
    go : (bytes : List ℕ) (ended_is shut_is : Bool) → waiting p tunnel ≡ bytes → (direction p tunnel).has_ended ≡ ended_is
        → (direction p tunnel).is_shut ≡ shut_is
        → ((named : Peer) × Awaits tunnel named) ⊎ ((direction p tunnel).is_shut ≡ true)
    go (byte ∷ bytes) ended_is shut_is some ended_as shut_as =
        let written : to_write p tunnel ≡ byte ∷ bytes = ap (λ b. if b then [] else waiting p tunnel) is_open ∙ some in
        let size = ap length written in
        inl (p, inr (inl (omega arith)))
    go [] false shut_is none goes_on shut_as =
        let P : Peer → Type 0 = λ r. (not (is_over tunnel) && not (direction r tunnel).has_ended
        && nat_lt (length (waiting r tunnel)) WINDOW) ≡ true in
        inl (q, inl (subst P (sym same) (wants (is_over tunnel) (direction p tunnel).has_ended (waiting p tunnel) is_open goes_on none)))
    go [] true false none has_ended not_yet =
        inl (
          p,
          inr (inr (is_shut_next (is_over tunnel) (direction p tunnel).has_ended (direction p tunnel).is_shut (waiting p tunnel)
              is_open has_ended none not_yet)),
        )
    go [] true true none has_ended is_shut = inr is_shut

pub never_stalls : (calls : List TunnelCall) (old new : TunnelState) → NeverStalls old calls new
never_stalls calls old new begin is is_open =
    by_both (awaited peer.Client peer.Endpoint new refl is_open) (awaited peer.Endpoint peer.Client new refl is_open)
  where
    by_both : ((named : Peer) × Awaits new named) ⊎ (new.for_client.is_shut ≡ true)
        → ((named : Peer) × Awaits new named) ⊎ (new.for_endpoint.is_shut ≡ true) → (named : Peer) × Awaits new named
    by_both (inl first) second = first
    by_both (inr client) (inl second) = second
    by_both (inr client) (inr endpoint) =
        let over_now = ap is_some ((exact_after calls old new is (exact_first old begin)).is_whole (client, endpoint)) in absurd (cc)
