-- What happens on the client's connection.
use Rattle.std.specs.Prelude.{◌≡◌, ℕ, Option, Some, None, Err}
use Rattle.bg_http.specs.Statuses.{request_status}
use Rattle.bg_http.specs.declared.request.Request.{Request}
use Rattle.bg_http.specs.declared.request_fault.RequestFault.{RequestFault}
use Rattle.bg_client_side.specs.Clients.{Client, taken}
use Rattle.bg_client_side.specs.Stages.{waiting_request}
use Rattle.bg_client_side.specs.declared.reading.Fed.{Fed}
use Rattle.bg_client_side.specs.declared.reading.Fed.TheVariants as fed
use Rattle.bg_both_sides.specs.Answers.{Answer, Refuses}
use Rattle.bg_both_sides.specs.Sides.{Sides}
use Rattle.bg_both_sides.specs.declared.endpoint_side.EndpointSide.TheVariants as side

-- what came has this fault, and is refused, if there is a status for it
abbrev pub RefusesBy : RequestFault → Option ℕ → ℕ → Client → Option Answer → Client → Type 0
RefusesBy named None now old answer new = (answer ≡ None) × (new ≡ old)
RefusesBy named (Some status) now old answer new = Refuses (Err named) status now old answer new

-- what was read with this result is refused with the status of its fault, if it is no request
abbrev pub RefusesFault : Fed → ℕ → Client → Option Answer → Client → Type 0
RefusesFault (fed.Refused named) now old answer new = RefusesBy named (request_status named) now old answer new
RefusesFault other now old answer new = (answer ≡ None) × (new ≡ old)

-- the client's connection read something with this result, and what is no request was refused
abbrev pub ReadsSide : (Client → Type 0) → Fed → ℕ → Option Answer → Client → Type 0
ReadsSide Reads result now answer new = (read : Client) × Reads read × RefusesFault result now read answer new

-- the request that waits enters, if one does
abbrev pub entered_as : Option Request → Sides → Sides
entered_as None sides = sides
entered_as (Some request) sides = record {
  client = taken (Some request) sides.client;
  endpoint = side.Entered request;
}

abbrev pub entered : Sides → Sides
entered sides = entered_as (waiting_request sides.client.stage) sides
