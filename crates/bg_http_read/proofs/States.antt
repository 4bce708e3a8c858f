-- The states of the parsers, by their parts.
use Rattle.std.proofs.Common.{◌≡◌, Bool, ℕ, List, [], ◌++◌, Option, refl}
use Rattle.std.proofs.lemmas.List.{append-nil}
use Rattle.bg_http.specs.declared.request.Request.{Request}
use Rattle.bg_http_read.specs.RequestStates.{RequestState}
use Rattle.bg_http_read.specs.RequestStreams.{StreamState}
use Rattle.bg_http_read.specs.ResponseStates.{ResponseState}
use Rattle.bg_http_read.specs.declared.refused_head.RefusedHead.{RefusedHead}

abbrev pub response_state : Request → List ℕ → Bool → ResponseState
response_state request seen is_open =
    record { request = request; seen = seen; is_open = is_open }

pub same_response : (request asked : Request) (seen came : List ℕ) (is_open was : Bool)
    → request ≡ asked → seen ≡ came → is_open ≡ was
    → response_state request seen is_open ≡ response_state asked came was
same_response request asked seen came is_open was h k e = cc

abbrev pub request_state : List ℕ → Bool → Bool → Option RefusedHead → RequestState
request_state seen asked is_open refused =
    record { seen = seen; asked = asked; is_open = is_open; refused = refused }

pub same_request : (seen came : List ℕ) (asked owed : Bool) (is_open was : Bool)
    (head refused : Option RefusedHead) → seen ≡ came → asked ≡ owed → is_open ≡ was
    → head ≡ refused → request_state seen asked is_open head ≡ request_state came owed was refused
same_request seen came asked owed is_open was head refused h k e r = cc

-- if no byte came, nothing changes
pub request_as_it_was : (state : RequestState)
    → request_state (state.seen ++ []) state.asked state.is_open state.refused ≡ state
request_as_it_was state =
    same_request (state.seen ++ []) state.seen state.asked state.asked state.is_open state.is_open
    state.refused state.refused (append-nil state.seen) refl refl refl

abbrev pub stream_state : List ℕ → Bool → Bool → Bool → Option RefusedHead → StreamState
stream_state since waits asked is_open refused =
    record { since = since; waits = waits; asked = asked; is_open = is_open; refused = refused }

pub same_stream : (since all : List ℕ) (waits asked owed is_open was : Bool) (head refused : Option RefusedHead)
    → since ≡ all → asked ≡ owed → is_open ≡ was → head ≡ refused
    → stream_state since waits asked is_open head ≡ stream_state all waits owed was refused
same_stream since all waits asked owed is_open was head refused h k e r = cc
