-- What bytes that came make of a request that is forwarded.
use Rattle.std.proofs.Common.{◌≡◌, ◌&&◌, ◌||◌, ◌∙◌, ℕ, Bool, true, false, not, List, [], ◌∷◌, ◌++◌, refl, sym, ap, subst, Ok}
use Rattle.bg_http.specs.Codings.{is_empty}
use Rattle.bg_http.specs.declared.request.Request.{Request}
use Rattle.bg_http_read.specs.ResponseStates.{IsReceived}
use Rattle.bg_http_read.specs.declared.received_response.ReceivedResponse.{ReceivedResponse}
use Rattle.bg_endpoint_side.specs.Dialing.{Forwarded}
use Rattle.bg_endpoint_side.specs.EndpointRequests.{IsForwardedSoundly, IsSoundWith, forwarded_of, forwarded_with}
use Rattle.bg_endpoint_side.specs.Forwarding.{IsDecided, may_stay, renew_if, with_bytes}
use Rattle.bg_endpoint_side.specs.Outcomes.{health_of}
use Rattle.bg_endpoint_side.specs.KeptBytes.{IsKeptOf}
use Rattle.bg_endpoint_side.specs.OutgoingTexts.{Outgoing}
use Rattle.bg_endpoint_side.specs.declared.connection_state.ConnectionState.{ConnectionState}
use Rattle.bg_endpoint_side.specs.declared.endpoint_request.EndpointRequest.{EndpointRequest}
use Rattle.bg_endpoint_side.specs.declared.outcome.Health.{Health}
use Rattle.bg_endpoint_side.specs.declared.outcome.Outcome.{Outcome}
use Rattle.bg_endpoint_side.specs.declared.terms.Terms.{Terms}

pub come_more : (seen bytes : List ℕ) → (not (is_empty seen) || not (is_empty bytes)) ≡ not (is_empty (seen ++ bytes))
come_more [] bytes = refl
come_more (byte ∷ seen) bytes = refl

-- a request that is forwarded, of these parts
abbrev pub forwarded_as : Request → Outgoing → List ℕ → ConnectionState → Forwarded
forwarded_as request text seen state = record { request = request; text = text; came = seen; state = state }

-- something happened, if it did: that renews timeouts alone
pub still_sound_with : (before after : EndpointRequest) (came : List ℕ) (happened : Bool) (now : ℕ)
    → after ≡ record before { state = (renew_if happened (forwarded_of before) now).state }
    → IsSoundWith before came → IsSoundWith after came
still_sound_with before after came happened now renewed sound =
    subst (λ x. IsSoundWith x came) (sym renewed) (
      sound.0,
      sound.1,
      sound.2,
      sound.3,
      once happened ∙ sound.4,
      subst (λ (terms : Terms). IsKeptOf before.arrived terms.asks_for_upgrade came) (sym (same happened)) sound.5,
    ) where
      once : (happened : Bool) → ((renew_if happened (forwarded_of before) now).state.is_kept
          && (renew_if happened (forwarded_of before) now).state.is_again) ≡ (before.state.is_kept && before.state.is_again)
      once true = refl
      once false = refl

      same : (happened : Bool) → (renew_if happened (forwarded_of before) now).state.terms ≡ before.state.terms
      same true = refl
      same false = refl

pub still_sound : (before after : EndpointRequest) (happened : Bool) (now : ℕ)
    → after ≡ record before { state = (renew_if happened (forwarded_of before) now).state }
    → IsForwardedSoundly before → IsForwardedSoundly after
still_sound before after happened now renewed sound =
    subst (IsSoundWith after) (ap (λ x. x.parser.seen) (sym renewed))
    (still_sound_with before after before.parser.seen happened now renewed sound)

-- the same, of the request as definitions see it
pub bytes_value : (before after : EndpointRequest) (came bytes : List ℕ) (happened : Bool) (now : ℕ)
    → happened ≡ not (is_empty bytes)
    → after ≡ record before { state = (renew_if happened (forwarded_of before) now).state }
    → forwarded_with after (came ++ bytes) ≡ with_bytes (forwarded_with before came) bytes now
bytes_value before after came bytes happened now is renewed =
    ap (λ x. forwarded_with x (came ++ bytes)) renewed ∙ by_test happened
    ∙ ap (λ t. renew_if t (record (forwarded_with before came) { came = came ++ bytes }) now) is where
      by_test : (t : Bool) → forwarded_with (record before { state = (renew_if t (forwarded_of before) now).state }) (came ++ bytes)
          ≡ renew_if t (record (forwarded_with before came) { came = came ++ bytes }) now
      by_test true = refl
      by_test false = refl

pub answered_now : (request : Request) (text : Outgoing) (seen : List ℕ) (state : ConnectionState) (self : Forwarded)
    (bytes : List ℕ) (received : ReceivedResponse) (stays : Bool) (health : Health) (outcome : Outcome)
    → forwarded_as request text seen state ≡ self → IsReceived request received (seen ++ bytes)
    → stays ≡ may_stay (forwarded_as request text seen state) received.response (seen ++ bytes)
    → health ≡ health_of (seen ++ bytes)
    → outcome ≡ record { answer = Ok received.response; goes_back = received.is_drained && stays; health = health }
    → IsDecided self (self.came ++ bytes) outcome
answered_now request text seen state self bytes received stays health outcome is got may told made =
    subst (λ (f : Forwarded). IsDecided f (f.came ++ bytes) outcome) is
    (subst (IsDecided (forwarded_as request text seen state) (seen ++ bytes)) (sym made) (record {
      left = got.0;
      answers = got.1;
      goes_back_is = ap (λ drained. drained && stays) got.2 ∙ ap (λ stay. is_empty got.0 && stay) may;
      health_is = told;
    }))
