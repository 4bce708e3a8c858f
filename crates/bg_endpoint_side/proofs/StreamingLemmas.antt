-- A request whose response is passed on as it comes.
use Rattle.std.proofs.Common.{◌≡◌, ℕ, Bool, true, false, ◌&&◌, List, [], ◌∷◌, refl, subst, Option, None, Some}
use Rattle.bg_http.specs.Codings.{is_empty}
use Rattle.bg_http.specs.declared.request.Request.{Request}
use Rattle.bg_http_read.specs.Bodies.{is_whole as whole_at}
use Rattle.bg_streams.specs.Framings.{tells_end}
use Rattle.bg_streams.specs.ResponseRelays.{is_drained as response_is_drained, passing_of, response_of}
use Rattle.bg_streams.specs.ResponseStreams.{DrainsWhole, StandsFor, is_drained, relay_of, waiting_of}
use Rattle.bg_streams.specs.declared.passing.Passing.{Passing}
use Rattle.bg_streams.specs.declared.response_stream.ResponseStream.{ResponseStream}
use Rattle.bg_endpoint_side.specs.Dialing.{Forwarded}
use Rattle.bg_endpoint_side.specs.Forwarding.{may_stay}
use Rattle.bg_endpoint_side.specs.Laws.{CarriedOneResponse, IsDrained, StreamGoesBackDrained}
use Rattle.bg_endpoint_side.specs.Streaming.{Streamed, stays}
use Rattle.bg_endpoint_side.proofs.LawLemmas.{both, goes_back_drained as sent_and_drained}

none_left : (bytes : List ℕ) (tells whole : Bool) → (is_empty bytes && tells && whole) ≡ true → is_empty bytes ≡ true
none_left [] tells whole e = refl
none_left (byte ∷ bytes) tells whole e = cc

and_both : (a b : Bool) → a ≡ true → b ≡ true → (a && b) ≡ true
and_both true b first second = second
and_both false b first second = cc

-- the connection is drained of the response that came on it
drained : (f : Forwarded) (left : List ℕ) (passing : Passing) → response_is_drained (Some passing) left ≡ true
    → stays f (Some passing.response) ≡ true → IsDrained f f.came left passing.response
drained f left passing is stay =
    sent_and_drained f f.came left passing.response
    (and_both (is_empty left) (may_stay f passing.response f.came)
    (none_left left (tells_end passing.framing) (whole_at passing.relay.stage) is) stay)

carried : ((stream : ResponseStream) (passing : Passing) (request : Request) (came passed : List ℕ)
    → DrainsWhole stream passing request came passed)
    → (s : Streamed) (passed : List ℕ) (passing : Passing) → StandsFor s.stream s.forwarded.request s.forwarded.came passed
    → passing_of (relay_of s.stream) ≡ Some passing → is_drained s.stream ≡ true
    → IsDrained s.forwarded s.forwarded.came (waiting_of s.stream) passing.response
    → CarriedOneResponse s passed
carried law s passed passing stands is drains ended =
    let answer = law s.stream passing s.forwarded.request s.forwarded.came passed stands is drains in
    record { passing = passing; passing_is = is; drained = ended; whole = answer.0; answer = answer.1 }

some_of : (passing : Option Passing) (left : List ℕ) → response_is_drained passing left ≡ true
    → (one : Passing) × (passing ≡ Some one)
some_of None left e = cc
some_of (Some passing) left e = (passing, refl)

pub goes_back_drained : ((stream : ResponseStream) (passing : Passing) (request : Request) (came passed : List ℕ)
    → DrainsWhole stream passing request came passed)
    → (s : Streamed) (passed : List ℕ) → StreamGoesBackDrained s passed
goes_back_drained law s passed stands is =
    let parts = both (is_drained s.stream) (stays s.forwarded (response_of (passing_of (relay_of s.stream)))) is in
    let found = some_of (passing_of (relay_of s.stream)) (waiting_of s.stream) parts.0 in
    carried law s passed found.0 stands found.1 parts.0
    (drained s.forwarded (waiting_of s.stream) found.0
    (subst (λ p. response_is_drained p (waiting_of s.stream) ≡ true) found.1 parts.0)
    (subst (λ p. stays s.forwarded (response_of p) ≡ true) found.1 parts.1))
