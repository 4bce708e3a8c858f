-- What a request has at its endpoint while it is dialled for, and while it is forwarded.
use Rattle.std.specs.Prelude.{◌≡◌, ℕ, false, ◌&&◌, not, IsTrue, List, []}
use Rattle.bg_http.specs.Codings.{is_empty}
use Rattle.bg_endpoint_side.specs.Dialing.{Dialing, Forwarded}
use Rattle.bg_endpoint_side.specs.KeptBytes.{IsKeptOf}
use Rattle.bg_endpoint_side.specs.OutgoingTexts.{uncopied_body}
use Rattle.bg_endpoint_side.specs.Versions.{IsMatch}
use Rattle.bg_endpoint_side.specs.declared.endpoint_request.EndpointRequest.{EndpointRequest}

-- the request that is dialled for, as definitions see it
abbrev pub dialing_of : EndpointRequest → Dialing
dialing_of x = record {
  request = x.parser.request;
  text = x.text.rest;
  terms = x.state.terms;
  deadlines = x.state.deadlines;
  is_again = x.state.is_again;
}

-- its parser was fed nothing, and nothing of its text was written
abbrev pub IsDialedSoundly : EndpointRequest → Type 0
IsDialedSoundly x = IsTrue x.parser.is_open × (x.parser.seen ≡ []) × (x.text.sent ≡ [])
    × (x.text.uncopied ≡ uncopied_body x.parser.request)

-- the request that is forwarded, as definitions see it, if these bytes came
abbrev pub forwarded_with : EndpointRequest → List ℕ → Forwarded
forwarded_with x came = record { request = x.parser.request; text = x.text; came = came; state = x.state }

-- the same, if its parser was fed the bytes that came
abbrev pub forwarded_of : EndpointRequest → Forwarded
forwarded_of x = forwarded_with x x.parser.seen

-- the parser asks for more, what is known of the bytes that came is so, a request that is sent again is on a new connection, and the
-- bytes that are kept are all that came; none are kept unless the terms ask for an upgrade
abbrev pub IsSoundWith : EndpointRequest → List ℕ → Type 0
IsSoundWith x came = IsTrue x.parser.is_open
    × (x.has_come ≡ not (is_empty came))
    × IsMatch x.version came
    × (x.text.uncopied ≡ uncopied_body x.parser.request)
    × ((x.state.is_kept && x.state.is_again) ≡ false)
    × IsKeptOf x.arrived x.state.terms.asks_for_upgrade came

abbrev pub IsForwardedSoundly : EndpointRequest → Type 0
IsForwardedSoundly x = IsSoundWith x x.parser.seen
