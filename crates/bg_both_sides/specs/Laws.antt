-- The laws of both sides of a client's connection.
use Rattle.std.specs.Prelude.{◌≡◌, ℕ, ◌≤◌, Bool, true, false, ◌&&◌, List, [], ◌∷◌, ◌++◌, Option, Some}
use Rattle.bg_http.specs.declared.request.Request.{Request}
use Rattle.bg_client_side.specs.Clients.{accepted}
use Rattle.bg_client_side.specs.Runs.{Runs, written_in}
use Rattle.bg_client_side.specs.Stages.{has_left, is_inside, is_passing_on, to_write}
use Rattle.bg_client_side.specs.declared.facts.ClientSettings.{ClientSettings}
use Rattle.bg_endpoint_side.specs.Dialing.{Dialing, Forwarded}
use Rattle.bg_endpoint_side.specs.Forwarding.{IsDecided, again, may_repeat}
use Rattle.bg_endpoint_side.specs.Streaming.{Streamed}
use Rattle.bg_endpoint_side.specs.declared.outcome.Outcome.{Outcome}
use Rattle.bg_streams.specs.ResponseRelays.{is_whole, passing_of, whole_rest}
use Rattle.bg_streams.specs.ResponseStreams.{StandsFor, relay_of}
use Rattle.bg_streams.specs.declared.response_stream.ResponseStream.{ResponseStream}
use Rattle.bg_http.specs.declared.persistence.Persistence.{Persistence}
use Rattle.bg_upgrade.specs.HeadTexts.{upgrade_text}
use Rattle.bg_upgrade.specs.Upgrades.{asks_for_upgrade}
use Rattle.bg_both_sides.specs.Answers.{IsAnswerTo, Reply}
use Rattle.bg_both_sides.specs.EndpointEvents.{given_in}
use Rattle.bg_both_sides.specs.Runs.{EndpointEvent, SidesCall, SidesCalls, SidesRun, accepts_upgrade, again_in, came_by, came_in, client_calls_in, client_takes, comes, dials, endpoint_gives, enters_none, passed_in, sent_in, streams, texts_in, written_of}
use Rattle.bg_both_sides.specs.Sides.{IsForwarded, IsSound, Sides, forwarded_text, request_of}
use Rattle.bg_both_sides.specs.StreamedEvents as streamed
use Rattle.bg_both_sides.specs.StreamedEvents.{Telling}
use Rattle.bg_both_sides.specs.UpgradeEvents.{Begins}
use Rattle.bg_both_sides.specs.declared.endpoint_step.Ending.{Ending}
use Rattle.bg_both_sides.specs.declared.endpoint_step.Given.{Given}
use Rattle.bg_both_sides.specs.declared.endpoint_step.EndpointStep.{EndpointStep}
use Rattle.bg_both_sides.specs.declared.endpoint_step.EndpointStep.TheVariants as steps
use Rattle.bg_both_sides.specs.declared.endpoint_side.EndpointSide.TheVariants as side
use Rattle.bg_both_sides.specs.declared.route.Route.{Route}
use Rattle.bg_both_sides.specs.declared.upgrading.Upgraded.{Upgraded}

-- a client's connection that was accepted, and no request
abbrev pub begun : ClientSettings → ℕ → Sides
begun settings now = record { client = accepted settings now; endpoint = side.NoRequest }

-- the calls make calls of the client's connection, so each law of it holds; and the two sides stay together
abbrev pub RunsItsClient : Sides → List SidesCall → Sides → Type 0
RunsItsClient old calls new =
    IsSound old.client old.endpoint → SidesRun old calls new
    → Runs old.client (client_calls_in calls) new.client × IsSound new.client new.endpoint

-- what was written to the client, and what is left of the answer at hand, are in their sequence the texts of the answers
-- that were given; a part is cut off only if the connection has left
abbrev pub WritesItsAnswers : Sides → List SidesCall → Sides → Type 0
WritesItsAnswers old calls new =
    IsSound old.client old.endpoint → SidesRun old calls new
    → (cut : List ℕ) × (to_write old.client.stage ++ texts_in calls
    ≡ written_in (client_calls_in calls) ++ to_write new.client.stage ++ cut)
    × (has_left new.client.stage ≡ false → cut ≡ [])

-- the bytes that came on the connection of a request decide its answer, and what is told of it
pub record IsDecidedBy (old : Sides) (bytes : List ℕ) (told : Given) (reply : Reply) : Type 0 where
  pub forwarded : Forwarded
  pub outcome : Outcome
  pub is_there : old.endpoint ≡ side.Forwarding reply.request forwarded
  pub is_sent : IsForwarded reply.request forwarded
  pub decided : IsDecided forwarded (forwarded.came ++ bytes) outcome
  pub answer_is : IsAnswerTo old.client reply.request outcome.answer told reply.answer

abbrev pub AnswersByItsResponse : Sides → List ℕ → ℕ → EndpointStep → Reply → Sides → Type 0
AnswersByItsResponse old bytes now step reply new =
    IsSound old.client old.endpoint → SidesCalls old (endpoint_gives (comes bytes) now step (Some reply)) new
    → IsDecidedBy old bytes (given_in step) reply

-- what was written to the connection of a request, and what is left, is the text of that request as it is forwarded; and
-- what came on it is all that came since it became the request's
pub record IsOfItsRequest (sent came : List ℕ) (request : Request) (forwarded : Forwarded) : Type 0 where
  pub sent_is : forwarded.text.sent ≡ sent
  pub came_is : forwarded.came ≡ came
  pub text_is : sent ++ forwarded.text.rest ≡ forwarded_text forwarded.state.terms request

abbrev pub SendsItsRequest : ClientSettings → ℕ → List SidesCall → Sides → Request → Forwarded → Type 0
SendsItsRequest settings now calls new request forwarded =
    SidesRun (begun settings now) calls new → new.endpoint ≡ side.Forwarding request forwarded
    → IsOfItsRequest (sent_in [] calls) (came_in [] calls) request forwarded

-- the same, if the response of the request is passed on
abbrev pub StreamsItsRequest : ClientSettings → ℕ → List SidesCall → Sides → Request → Streamed → Type 0
StreamsItsRequest settings now calls new request s =
    SidesRun (begun settings now) calls new → new.endpoint ≡ side.Streaming request s
    → IsOfItsRequest (sent_in [] calls) (came_in [] calls) request s.forwarded

-- a response that is passed on is that of its request: it stands for the bytes that came on the connection since that became the
-- request's, and for those that the client took since then
abbrev pub PassesOnItsResponse : ClientSettings → ℕ → List SidesCall → Sides → Request → Streamed → Type 0
PassesOnItsResponse settings now calls new request s =
    SidesRun (begun settings now) calls new → new.endpoint ≡ side.Streaming request s
    → StandsFor s.stream request (came_in [] calls) (passed_in [] calls)

-- a response that stands for all bytes that came, and for those that the client took, is whole, and the text is what is left of it
pub record IsRestOf (request : Request) (came passed text : List ℕ) : Type 0 where
  pub stream : ResponseStream
  pub stands : StandsFor stream request came passed
  pub whole : is_whole (passing_of (relay_of stream)) ≡ true
  pub text_is : text ≡ whole_rest (passing_of (relay_of stream))

-- the request whose response is passed on, and the text that is given as what is left of its response
abbrev pub EndsItsResponse : Sides → List ℕ → List ℕ → List ℕ → Type 0
EndsItsResponse old came passed text =
    (request : Request) × (s : Streamed) × (old.endpoint ≡ side.Streaming request s) × IsRestOf request came passed text

-- so it is if bytes of the endpoint, or its end, make the response whole, and if the client makes room for the last of it
abbrev pub EndsByItsEndpoint : ClientSettings → ℕ → List SidesCall → Sides → EndpointEvent → ℕ → EndpointStep → List ℕ → ℕ
    → Persistence → Sides → Type 0
EndsByItsEndpoint settings now calls old event at told text weight persistence new =
    SidesRun (begun settings now) calls old → SidesCalls old (streams event at told (streamed.ends text weight persistence)) new
    → EndsItsResponse old (came_by (came_in [] calls) (streams event at told (streamed.ends text weight persistence)))
    (passed_in [] calls) text

abbrev pub EndsByItsClient : ClientSettings → ℕ → List SidesCall → Sides → List ℕ → ℕ → EndpointStep → List ℕ → ℕ
    → Persistence → Sides → Type 0
EndsByItsClient settings now calls old bytes at told text weight persistence new =
    SidesRun (begun settings now) calls old
    → SidesCalls old (client_takes true bytes at told (streamed.ends text weight persistence)) new
    → EndsItsResponse old (came_in [] calls) (passed_in [] calls ++ bytes) text

-- a connection goes back only after the whole text of its request was written to it
pub record WasWhole (old : Sides) : Type 0 where
  pub request : Request
  pub forwarded : Forwarded
  pub is_there : old.endpoint ≡ side.Forwarding request forwarded
  pub text_is : forwarded.text.sent ≡ forwarded_text forwarded.state.terms request

abbrev pub GoesBackWhole : Sides → EndpointEvent → ℕ → Ending → Option Reply → Sides → Type 0
GoesBackWhole old event now ending reply new =
    IsSound old.client old.endpoint → SidesCalls old (endpoint_gives event now (steps.Answered ending) reply) new
    → ending.goes_back ≡ true → WasWhole old

-- the same, if the response of the request is passed on
pub record WasStreamedWhole (old : Sides) : Type 0 where
  pub request : Request
  pub s : Streamed
  pub is_there : old.endpoint ≡ side.Streaming request s
  pub text_is : s.forwarded.text.sent ≡ forwarded_text s.forwarded.state.terms request

abbrev pub StreamGoesBackWhole : Sides → EndpointEvent → ℕ → Ending → Telling → Sides → Type 0
StreamGoesBackWhole old event now ending telling new =
    IsSound old.client old.endpoint → SidesCalls old (streams event now (steps.Answered ending) telling) new
    → ending.goes_back ≡ true → WasStreamedWhole old

abbrev pub TakenGoesBackWhole : Sides → List ℕ → ℕ → Ending → Telling → Sides → Type 0
TakenGoesBackWhole old bytes now ending telling new =
    IsSound old.client old.endpoint → SidesCalls old (client_takes true bytes now (steps.Answered ending) telling) new
    → ending.goes_back ≡ true → WasStreamedWhole old

-- no connection to an endpoint is there unless the client has a request inside: not if the client's connection is idle, and
-- not if it has left
abbrev pub HasNoneWithoutRequest : ClientSettings → ℕ → List SidesCall → Sides → Type 0
HasNoneWithoutRequest settings now calls new =
    SidesRun (begun settings now) calls new → is_inside new.client.stage ≡ false → new.endpoint ≡ side.NoRequest

-- a request that is answered has no connection to an endpoint, and is at hand no longer
abbrev pub LosesItsConnection : Sides → EndpointEvent → ℕ → Ending → Option Reply → Sides → Type 0
LosesItsConnection old event now ending reply new =
    SidesCalls old (endpoint_gives event now (steps.Answered ending) reply) new → new.endpoint ≡ side.NoRequest

-- the same of a request whose response is passed on, by what happens at its endpoint and by what its client takes
abbrev pub StreamLosesItsConnection : Sides → EndpointEvent → ℕ → Ending → Telling → Sides → Type 0
StreamLosesItsConnection old event now ending telling new =
    SidesCalls old (streams event now (steps.Answered ending) telling) new → new.endpoint ≡ side.NoRequest

abbrev pub TakenLosesItsConnection : Sides → Bool → List ℕ → ℕ → Ending → Telling → Sides → Type 0
TakenLosesItsConnection old passed bytes now ending telling new =
    SidesCalls old (client_takes passed bytes now (steps.Answered ending) telling) new → new.endpoint ≡ side.NoRequest

-- none of these calls has a request enter
abbrev pub none_enters : List SidesCall → Bool
none_enters [] = true
none_enters (call ∷ more) = enters_none call && none_enters more

-- a request is sent again at most once
abbrev pub RepeatsOnce : Sides → List SidesCall → Sides → Type 0
RepeatsOnce old calls new = SidesRun old calls new → none_enters calls ≡ true → again_in calls ≤ 1

-- it is sent again by the rule of the endpoint's side, and on another connection
pub record RepeatsByRule (old : Sides) (now : ℕ) (new : Sides) : Type 0 where
  pub request : Request
  pub forwarded : Forwarded
  pub is_there : old.endpoint ≡ side.Forwarding request forwarded
  pub rule : may_repeat forwarded ≡ true
  pub dials : new.endpoint ≡ side.Dialing request (again forwarded now)

-- the same of a request whose response is passed on
pub record StreamRepeatsByRule (old : Sides) (now : ℕ) (new : Sides) : Type 0 where
  pub request : Request
  pub s : Streamed
  pub is_there : old.endpoint ≡ side.Streaming request s
  pub rule : may_repeat s.forwarded ≡ true
  pub dials : new.endpoint ≡ side.Dialing request (again s.forwarded now)

abbrev pub StreamRepeatsOnlyByRule : Sides → EndpointEvent → ℕ → Telling → Sides → Type 0
StreamRepeatsOnlyByRule old event now telling new =
    SidesCalls old (streams event now steps.DialsAgain telling) new → StreamRepeatsByRule old now new

abbrev pub RepeatsOnlyByRule : Sides → EndpointEvent → ℕ → Option Reply → Sides → Type 0
RepeatsOnlyByRule old event now reply new =
    SidesCalls old (endpoint_gives event now steps.DialsAgain reply) new → RepeatsByRule old now new

-- a request that is dialled for is so at another endpoint only if no byte of it was written to one
abbrev pub GoesElsewhereUnsent : ClientSettings → ℕ → List SidesCall → Sides → Request → Dialing → Route → ℕ → Sides → Type 0
GoesElsewhereUnsent settings now calls old request dialing route at new =
    SidesRun (begun settings now) calls old → old.endpoint ≡ side.Dialing request dialing
    → SidesCalls old (dials route at true) new → written_of [] calls ≡ []

-- a tunnel follows an acceptance: the whole text of a request that asks for an upgrade was written to its connection, and nothing else;
-- the tunnel begins with all bytes that came there, and with those that are unread behind the request; nothing of another response was
-- passed on; and the client's connection has left
pub record FollowsAcceptance (sent came : List ℕ) (old : Sides) (upgraded : Upgraded) (new : Sides) : Type 0 where
  pub request : Request
  pub request_is : request_of old.endpoint ≡ Some request
  pub asks : asks_for_upgrade request ≡ true
  pub sent_is : sent ≡ upgrade_text request
  pub begins : Begins request came old.client.since upgraded
  pub none_passed : is_passing_on old.client.stage ≡ false
  pub no_request : new.endpoint ≡ side.NoRequest
  pub left : has_left new.client.stage ≡ true

abbrev pub BeginsTunnel : ClientSettings → ℕ → List SidesCall → Sides → List ℕ → ℕ → ℕ → Upgraded → Sides → Type 0
BeginsTunnel settings now calls old bytes at weight upgraded new =
    SidesRun (begun settings now) calls old → SidesCalls old (accepts_upgrade bytes at weight (Some upgraded)) new
    → FollowsAcceptance (sent_in [] calls) (came_in [] calls ++ bytes) old upgraded new
