-- What happens to a request whose response is passed on as it comes.
use Rattle.std.specs.Prelude.{◌≡◌, ℕ, ◌==◌, Bool, true, false, ◌&&◌, not, List, IsFalse, Option, Some, None, vec_capacity}
use Rattle.std.specs.Option.{option_map}
use Rattle.bg_http.specs.Codings.{is_empty}
use Rattle.bg_http.specs.Persistences.{keeps}
use Rattle.bg_http.specs.declared.persistence.Persistence.{Persistence}
use Rattle.bg_http.specs.declared.request.Request.{Request}
use Rattle.bg_streams.specs.ResponseRelays.{keeps_of, passing_of, rest_of, terms_of}
use Rattle.bg_streams.specs.ResponseStreams.{relay_of}
use Rattle.bg_streams.specs.declared.stream_terms.StreamTerms.{StreamTerms}
use Rattle.bg_client_side.specs.Clients.{Client, answered, begun_passing_on, cut_off, may_pass_on, passed_at}
use Rattle.bg_client_side.specs.Stages.{is_passing_on}
use Rattle.bg_endpoint_side.specs.Outcomes.{refused}
use Rattle.bg_endpoint_side.specs.StreamedSteps.{TakesStreamed, is_again}
use Rattle.bg_endpoint_side.specs.Streaming.{IsStreamedOn, Streamed}
use Rattle.bg_endpoint_side.specs.declared.forwarded_request.Step.TheVariants as step
use Rattle.bg_endpoint_side.specs.declared.outcome.ForwardFault.{ForwardFault}
use Rattle.bg_endpoint_side.specs.declared.outcome.Health.{Health}
use Rattle.bg_endpoint_side.specs.declared.streamed_step.StreamedAnswer.{StreamedAnswer}
use Rattle.bg_endpoint_side.specs.declared.streamed_step.StreamedStep.{StreamedStep}
use Rattle.bg_endpoint_side.specs.declared.streamed_step.StreamedStep.TheVariants as streamed
use Rattle.bg_both_sides.specs.Answers.{Reply, unwritten}
use Rattle.bg_both_sides.specs.EndpointEvents.{Follows}
use Rattle.bg_both_sides.specs.Sides.{Sides, is_streaming}
use Rattle.bg_both_sides.specs.declared.endpoint_side.EndpointSide.{EndpointSide}
use Rattle.bg_both_sides.specs.declared.endpoint_side.EndpointSide.TheVariants as side
use Rattle.bg_both_sides.specs.declared.endpoint_step.EndpointStep.{EndpointStep}
use Rattle.bg_both_sides.specs.declared.endpoint_step.EndpointStep.TheVariants as steps
use Rattle.bg_both_sides.specs.declared.endpoint_step.Given.TheVariants as given
use Rattle.bg_both_sides.specs.declared.stream_limits.StreamLimits.{StreamLimits}

-- THE CONNECTION

-- what is known of the client that has this request, whose connection goes on after its answer, or not
pub record IsTermsFor (goes_on : Bool) (request : Request) (limits : StreamLimits) (terms : StreamTerms) : Type 0 where
  pub chunks_is : terms.reads_chunks ≡ not (request.minor == 0)
  pub persistence_is : keeps terms.persistence ≡ goes_on
  pub window_is : terms.window ≡ limits.window
  pub most_is : terms.most_body ≡ limits.most_body

-- the connection becomes that of a request whose response is passed on; or nothing changes
abbrev pub ConnectsStreamed : Bool → StreamLimits → ℕ → Bool → Bool → EndpointSide → EndpointSide → Type 0
ConnectsStreamed is_kept limits now goes_on true (side.Dialing request dialing) new =
    (terms : StreamTerms) × IsTermsFor goes_on request limits terms
    × ((s : Streamed) × IsStreamedOn is_kept dialing terms now s × (new ≡ side.Streaming request s))
ConnectsStreamed is_kept limits now goes_on true other new = ⊥
ConnectsStreamed is_kept limits now goes_on false old new = new ≡ old

-- WHAT THE CLIENT'S CONNECTION IS TOLD

-- what it is told by a step: nothing; what the head says of it, once the head came, whether the response begins to be passed on then,
-- whether bytes wait, and whether it is passed on; the rest of a whole response; a refusal; or a cut
pub data Telling : Type 0 where
  nothing : Telling
  shows : Option Persistence → Bool → Bool → Bool → Telling
  ends : List ℕ → ℕ → Persistence → Telling
  refuses : Reply → Telling
  cuts : Telling

-- the response begins to be passed on, if its head came and it may
abbrev pub begun_by : Option Persistence → ℕ → Client → Client
begun_by None now client = client
begun_by (Some persistence) now client = begun_passing_on persistence now client

abbrev pub shown : Option Persistence → Bool → ℕ → Client → Client
shown head waits now client = passed_at (begun_by head now client).stage 0 waits now (begun_by head now client)

-- a response that goes on is shown to the client
pub record Shows (s : Streamed) (now : ℕ) (client : Client) (telling : Telling) (new : Client) : Type 0 where
  pub head : Option Persistence
  pub begins : Bool
  pub waits : Bool
  pub passes : Bool
  pub head_is : option_map keeps head ≡ keeps_of (terms_of (relay_of s.stream)) (passing_of (relay_of s.stream))
  pub begins_is : begins ≡ may_pass_on client
  pub waits_is : waits ≡ not (is_empty (rest_of (passing_of (relay_of s.stream))))
  pub passes_is : passes ≡ is_passing_on (begun_by head now client).stage
  pub telling_is : telling ≡ shows head begins waits passes
  pub new_is : new ≡ shown head waits now client

-- the rest of a whole response is the answer
pub record Ends (answer : StreamedAnswer) (now : ℕ) (client : Client) (told : EndpointStep) (telling : Telling) (new : Client) : Type 0 where
  pub told_is : told ≡ steps.Answered (record {
    given = given.Response answer.code;
    goes_back = answer.goes_back;
    health = answer.health;
  })
  pub telling_is : telling ≡ ends answer.rest.items (vec_capacity answer.rest) answer.persistence
  pub new_is : new
      ≡ answered (unwritten answer.rest.items (vec_capacity answer.rest)) answer.persistence now client

-- the client is refused
abbrev pub Refuses : Request → ForwardFault → Health → ℕ → Client → EndpointStep → Telling → Sides → Type 0
Refuses request why told_of now client told telling new =
    (reply : Reply) × (telling ≡ refuses reply)
    × Follows request (step.Over (refused why told_of)) now client told (Some reply) new

-- a response that is passed on is cut; otherwise the client is refused
abbrev pub CutsIf : Bool → Request → ForwardFault → Health → ℕ → Client → EndpointStep → Telling → Sides → Type 0
CutsIf true request why told_of now client told telling new =
    (told ≡ steps.Answered (record { given = given.Cut why; goes_back = false; health = told_of })) × (telling ≡ cuts)
    × (new ≡ record { client = cut_off client; endpoint = side.NoRequest })
CutsIf false request why told_of now client told telling new = Refuses request why told_of now client told telling new

-- what follows from a step
abbrev pub FollowsStreamed : Request → StreamedStep → ℕ → Client → EndpointStep → Telling → Sides → Type 0
FollowsStreamed request (streamed.GoesOn s) now client told telling new =
    (told ≡ steps.GoesOn) × (new.endpoint ≡ side.Streaming request s) × Shows s now client telling new.client
FollowsStreamed request (streamed.Again dialing) now client told telling new =
    (told ≡ steps.DialsAgain) × (telling ≡ nothing)
    × (new ≡ record { client = client; endpoint = side.Dialing request dialing })
FollowsStreamed request (streamed.Whole answer) now client told telling new =
    (new.endpoint ≡ side.NoRequest) × Ends answer now client told telling new.client
FollowsStreamed request (streamed.Refused why told_of) now client told telling new =
    Refuses request why told_of now client told telling new
FollowsStreamed request (streamed.Cut why told_of) now client told telling new =
    CutsIf (is_passing_on client.stage) request why told_of now client told telling new

-- an event leads to such a step
abbrev pub AtStreamed : (Streamed → StreamedStep → Type 0) → EndpointSide → ℕ → Client → EndpointStep → Telling → Sides → Type 0
AtStreamed Steps (side.Streaming request s) now client told telling new =
    (step : StreamedStep) × Steps s step × FollowsStreamed request step now client told telling new
AtStreamed Steps other now client told telling new = ⊥

-- a request that is sent again is not sent once more
abbrev pub IsOnceStreamed : Streamed → StreamedStep → Type 0
IsOnceStreamed s step = s.forwarded.state.is_again ≡ true → IsFalse (is_again step)

-- the client took so many bytes of a response that is passed on; without one nothing changes
abbrev pub ClientTakesOf : Bool → Request → Streamed → ℕ → ℕ → Client → EndpointStep → Telling → Sides → Type 0
ClientTakesOf true request s count now client told telling new =
    (step : StreamedStep) × TakesStreamed s count now step
    × FollowsStreamed request step now (passed_at client.stage count true now client) told telling new
ClientTakesOf false request s count now client told telling new =
    (told ≡ steps.NotThere) × (telling ≡ nothing) × (new ≡ record { client = client; endpoint = side.Streaming request s })

abbrev pub ClientTakes : EndpointSide → ℕ → ℕ → Client → EndpointStep → Telling → Sides → Type 0
ClientTakes (side.Streaming request s) count now client told telling new =
    ClientTakesOf (is_passing_on client.stage) request s count now client told telling new
ClientTakes other count now client told telling new =
    (told ≡ steps.NotThere) × (telling ≡ nothing) × (new ≡ record { client = client; endpoint = other })

-- the client's connection passes the response of its request on
abbrev pub passes_here : Sides → Bool
passes_here sides = is_streaming sides.endpoint && is_passing_on sides.client.stage
