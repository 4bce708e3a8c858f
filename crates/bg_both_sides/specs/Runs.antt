-- The calls on both sides of a client's connection, one after the other.
use Rattle.std.specs.Prelude.{◌≡◌, ℕ, ◌+◌, Bool, true, false, if◌then◌else◌, List, [], ◌∷◌, ◌++◌, length, Option, Some, None}
use Rattle.bg_http.specs.Elements.{Field}
use Rattle.bg_http.specs.declared.persistence.Persistence.TheVariants.{Close}
use Rattle.bg_http.specs.declared.request.Request.{Request}
use Rattle.bg_client_side.specs.Runs.{Calls, ClientCall, answers, begins_closing, begins_passing_on, continues, cuts as client_cuts, discards, ends_input, fails, feeds, looks, passes_on, takes, writes}
use Rattle.bg_client_side.specs.Clients.{stays_after}
use Rattle.bg_client_side.specs.Stages.{waiting_request}
use Rattle.bg_client_side.specs.declared.reading.Fed.{Fed}
use Rattle.bg_endpoint_side.specs.Forwarding.{Ends, Receives, failed, unread, with_end, wrote}
use Rattle.bg_endpoint_side.specs.StreamedSteps.{EndsStreamed, ReceivesStreamed, failed_streamed, given_up_streamed, looked_streamed}
use Rattle.bg_endpoint_side.specs.Streaming.{Streamed}
use Rattle.bg_endpoint_side.specs.declared.outcome.DialFault.{DialFault}
use Rattle.bg_endpoint_side.specs.declared.outcome.GivingUp.{GivingUp}
use Rattle.bg_endpoint_side.specs.declared.streamed_step.StreamedStep.{StreamedStep}
use Rattle.bg_both_sides.specs.Answers.{Answer, Reply, lacks, says}
use Rattle.bg_both_sides.specs.ClientEvents.{ReadsSide, entered}
use Rattle.bg_both_sides.specs.EndpointEvents.{AtDialing, AtForwarded, Dials, GivesUp, IsOnce, Looks, RefusesEntered, connected, dial_failed, on_forwarded, takes_connection, with_fields}
use Rattle.bg_both_sides.specs.Sides.{Sides, to_client, to_endpoint}
use Rattle.bg_both_sides.specs.StreamedEvents.{AtStreamed, ClientTakes, ConnectsStreamed, IsOnceStreamed, Telling, passes_here}
use Rattle.bg_both_sides.specs.StreamedEvents as streamed
use Rattle.bg_both_sides.specs.UpgradeEvents.{AcceptsUpgrade}
use Rattle.bg_both_sides.specs.declared.stream_limits.StreamLimits.{StreamLimits}
use Rattle.bg_both_sides.specs.declared.upgrading.Upgraded.{Upgraded}
use Rattle.bg_both_sides.specs.declared.endpoint_step.EndpointStep.{EndpointStep}
use Rattle.bg_both_sides.specs.declared.endpoint_step.EndpointStep.TheVariants as steps
use Rattle.bg_both_sides.specs.declared.route.Route.{Route}

-- what happens to the request at its endpoint
pub data EndpointEvent : Type 0 where
  comes : List ℕ → EndpointEvent
  ends : EndpointEvent
  breaks : EndpointEvent
  dial_fails : DialFault → EndpointEvent
  passes : EndpointEvent
  given_up : GivingUp → EndpointEvent

-- a call, with what it was given and what it gave
pub data SidesCall : Type 0 where
  -- a call of the client's connection that reads, its result, a moment, and the answer that what is no request got
  reads : ClientCall → Fed → ℕ → Option Answer → SidesCall
  -- another call of the client's connection, which gets no request and no answer by it
  notes : ClientCall → SidesCall
  -- the request that entered, if one waited
  enters : Option Request → SidesCall
  -- whether a request that entered was refused, and the answer to it
  refuses : ℕ → Bool → Option Reply → SidesCall
  -- the request that entered, if one did, is forwarded with these fields
  replaces_fields : List Field → SidesCall
  -- whether a request that entered is dialled for
  dials : Route → ℕ → Bool → SidesCall
  -- whether a connection, which was kept or is new, became that of the request
  connects : Bool → ℕ → Bool → SidesCall
  -- these bytes were written to the endpoint
  endpoint_writes : List ℕ → ℕ → SidesCall
  endpoint_reads_no_more : ℕ → SidesCall
  endpoint_is_ending : SidesCall
  -- what happened to the request at a moment, what this made of it, and the answer to it, if it got one
  endpoint_gives : EndpointEvent → ℕ → EndpointStep → Option Reply → SidesCall
  -- whether a connection, which was kept or is new, became that of a request whose response is passed on
  connects_streamed : Bool → StreamLimits → ℕ → Bool → SidesCall
  -- what happened to such a request, what this made of it, and what the client's connection was told
  streams : EndpointEvent → ℕ → EndpointStep → Telling → SidesCall
  -- whether a response is passed on, and the client took these bytes of it; what this made of it, and what its connection was told
  client_takes : Bool → List ℕ → ℕ → EndpointStep → Telling → SidesCall
  -- these bytes came from the endpoint, and whether it accepted an upgrade with them, which handed both connections over
  accepts_upgrade : List ℕ → ℕ → ℕ → Option Upgraded → SidesCall

-- a call of the client's connection that reads, with this result and at this moment
abbrev pub IsReading : ClientCall → Fed → ℕ → Type 0
IsReading (feeds bytes at result whole) fed now = (result ≡ fed) × (at ≡ now)
IsReading (continues result whole) fed now = result ≡ fed
IsReading (writes bytes at result whole) fed now = (result ≡ fed) × (at ≡ now)
IsReading other fed now = ⊥

-- a call of the client's connection that neither reads nor hands out a request nor gives an answer
abbrev pub is_note : ClientCall → Bool
is_note ends_input = true
is_note begins_closing = true
is_note fails = true
is_note (discards count) = true
is_note (looks now) = true
is_note other = false

-- what happens to the request at its endpoint, by the contract of the call for it
abbrev pub Happens : EndpointEvent → Sides → ℕ → EndpointStep → Option Reply → Sides → Type 0
Happens (comes bytes) old now told reply new =
    AtForwarded (λ f step. Receives f bytes now step) old.endpoint now old.client told reply new
Happens ends old now told reply new =
    AtForwarded (λ f step. Ends f now step × IsOnce f step) old.endpoint now old.client told reply new
Happens breaks old now told reply new =
    AtForwarded (λ f step. (step ≡ failed f now) × IsOnce f step) old.endpoint now old.client told reply new
Happens (dial_fails why) old now told reply new =
    AtDialing (λ d. dial_failed why) old.endpoint now old.client told reply new
Happens passes old now told reply new = Looks old.endpoint now old.client told reply new
Happens (given_up why) old now told reply new = GivesUp why old.endpoint now old.client told reply new

-- the steps of a request whose response is passed on, by the contract of the call for it
abbrev pub StepsBy : EndpointEvent → ℕ → Streamed → StreamedStep → Type 0
StepsBy (comes bytes) now s next = ReceivesStreamed s bytes now next
StepsBy ends now s next = EndsStreamed s now next × IsOnceStreamed s next
StepsBy breaks now s next = (next ≡ failed_streamed s now) × IsOnceStreamed s next
StepsBy (dial_fails why) now s next = ⊥
StepsBy passes now s next = next ≡ looked_streamed s now
StepsBy (given_up why) now s next = next ≡ given_up_streamed s why

-- what the call says of the two sides before and after it, by its contract. The bytes that were written to an endpoint are the
-- first ones of what is to be written
abbrev pub SidesCalls : Sides → SidesCall → Sides → Type 0
SidesCalls old (reads call result now answer) new =
    IsReading call result now × ReadsSide (Calls old.client call) result now answer new.client
    × (new.endpoint ≡ old.endpoint)
SidesCalls old (notes call) new =
    (is_note call ≡ true) × Calls old.client call new.client × (new.endpoint ≡ old.endpoint)
SidesCalls old (enters request) new = (request ≡ waiting_request old.client.stage) × (new ≡ entered old)
SidesCalls old (refuses now told reply) new = RefusesEntered old.endpoint now old.client told reply new
SidesCalls old (replaces_fields fields) new =
    (new.client ≡ old.client) × (new.endpoint ≡ with_fields fields old.endpoint)
SidesCalls old (dials route now does) new =
    (new.client ≡ old.client) × Dials old.endpoint route now does new.endpoint
SidesCalls old (connects is_kept now taken) new =
    (taken ≡ takes_connection is_kept old.endpoint) × (new ≡ connected is_kept now old)
SidesCalls old (endpoint_writes bytes now) new =
    ((rest : List ℕ) × (to_endpoint old.endpoint ≡ bytes ++ rest)) × (new.client ≡ old.client)
    × (new.endpoint ≡ on_forwarded (λ f. wrote f (length bytes) now) old.endpoint)
SidesCalls old (endpoint_reads_no_more now) new =
    (new.client ≡ old.client) × (new.endpoint ≡ on_forwarded (λ f. unread f now) old.endpoint)
SidesCalls old endpoint_is_ending new =
    (new.client ≡ old.client) × (new.endpoint ≡ on_forwarded with_end old.endpoint)
SidesCalls old (endpoint_gives event now told reply) new = Happens event old now told reply new
SidesCalls old (connects_streamed is_kept limits now taken) new =
    (new.client ≡ old.client)
    × ConnectsStreamed is_kept limits now (stays_after old.client) taken old.endpoint new.endpoint
SidesCalls old (streams event now told telling) new =
    AtStreamed (StepsBy event now) old.endpoint now old.client told telling new
SidesCalls old (client_takes passed bytes now told telling) new =
    (passed ≡ passes_here old) × ((rest : List ℕ) × (to_client old.endpoint ≡ bytes ++ rest))
    × ClientTakes old.endpoint (length bytes) now old.client told telling new
SidesCalls old (accepts_upgrade bytes now weight upgraded) new = AcceptsUpgrade old bytes now weight upgraded new

-- these calls, one after the other
abbrev pub SidesRun : Sides → List SidesCall → Sides → Type 0
SidesRun old [] new = old ≡ new
SidesRun old (call ∷ more) new = (between : Sides) × SidesCalls old call between × SidesRun between more new

-- THE CLIENT'S CONNECTION

-- the calls of the client's connection that give an answer, to a request that is inside or to what is no request
abbrev pub answer_calls : Bool → Answer → ℕ → List ClientCall
answer_calls is_inside (says text weight persistence) now = answers text weight persistence now true ∷ []
answer_calls is_inside (lacks weight) now = fails ∷ answers [] weight Close now is_inside ∷ []

abbrev pub fault_calls : Option Answer → ℕ → List ClientCall
fault_calls None now = []
fault_calls (Some answer) now = answer_calls false answer now

abbrev pub reply_calls : Option Reply → ℕ → List ClientCall
reply_calls None now = []
reply_calls (Some reply) now = answer_calls true reply.answer now

-- what its connection is told by a step of a response that is passed on
abbrev pub telling_calls : Telling → ℕ → List ClientCall
telling_calls streamed.nothing now = []
telling_calls (streamed.shows None begins waits passed) now = passes_on [] waits now passed ∷ []
telling_calls (streamed.shows (Some persistence) begins waits passed) now =
    begins_passing_on persistence now begins ∷ passes_on [] waits now passed ∷ []
telling_calls (streamed.ends text weight persistence) now = answers text weight persistence now true ∷ []
telling_calls (streamed.refuses reply) now = answer_calls true reply.answer now
telling_calls streamed.cuts now = client_cuts true ∷ []

abbrev pub taken_calls : Bool → List ℕ → ℕ → List ClientCall
taken_calls true bytes now = passes_on bytes true now true ∷ []
taken_calls false bytes now = []

abbrev pub upgrade_calls : ℕ → Option Upgraded → ℕ → List ClientCall
upgrade_calls weight None now = []
upgrade_calls weight (Some upgraded) now = answer_calls true (lacks weight) now

-- the calls of the client's connection that a call makes, and that calls make in their sequence
abbrev pub client_calls : SidesCall → List ClientCall
client_calls (reads call result now answer) = call ∷ fault_calls answer now
client_calls (notes call) = call ∷ []
client_calls (enters request) = takes request ∷ []
client_calls (refuses now told reply) = reply_calls reply now
client_calls (endpoint_gives event now told reply) = reply_calls reply now
client_calls (streams event now told telling) = telling_calls telling now
client_calls (client_takes passed bytes now told telling) = taken_calls passed bytes now ++ telling_calls telling now
client_calls (accepts_upgrade bytes now weight upgraded) = upgrade_calls weight upgraded now
client_calls other = []

abbrev pub client_calls_in : List SidesCall → List ClientCall
client_calls_in [] = []
client_calls_in (call ∷ more) = client_calls call ++ client_calls_in more

-- the texts of the answers that were given; what the client took of a response that is passed on is of its text
abbrev pub text_of : Answer → List ℕ
text_of (says text weight persistence) = text
text_of (lacks weight) = []

abbrev pub fault_text : Option Answer → List ℕ
fault_text None = []
fault_text (Some answer) = text_of answer

abbrev pub reply_text : Option Reply → List ℕ
reply_text None = []
reply_text (Some reply) = text_of reply.answer

abbrev pub telling_text : Telling → List ℕ
telling_text (streamed.ends text weight persistence) = text
telling_text (streamed.refuses reply) = text_of reply.answer
telling_text other = []

abbrev pub texts_by : SidesCall → List ℕ
texts_by (reads call result now answer) = fault_text answer
texts_by (refuses now told reply) = reply_text reply
texts_by (endpoint_gives event now told reply) = reply_text reply
texts_by (streams event now told telling) = telling_text telling
texts_by (client_takes passed bytes now told telling) = (if passed then bytes else []) ++ telling_text telling
texts_by other = []

abbrev pub texts_in : List SidesCall → List ℕ
texts_in [] = []
texts_in (call ∷ more) = texts_by call ++ texts_in more

-- THE ENDPOINT'S CONNECTION

-- what was written to the connection of the request since the connection became its own
abbrev pub sent_by : List ℕ → SidesCall → List ℕ
sent_by before (connects is_kept now true) = []
sent_by before (connects_streamed is_kept limits now true) = []
sent_by before (endpoint_writes bytes now) = before ++ bytes
sent_by before other = before

abbrev pub sent_in : List ℕ → List SidesCall → List ℕ
sent_in before [] = before
sent_in before (call ∷ more) = sent_in (sent_by before call) more

-- what was written to endpoints of the request since it entered
abbrev pub written_by : List ℕ → SidesCall → List ℕ
written_by before (enters (Some request)) = []
written_by before (endpoint_writes bytes now) = before ++ bytes
written_by before other = before

abbrev pub written_of : List ℕ → List SidesCall → List ℕ
written_of before [] = before
written_of before (call ∷ more) = written_of (written_by before call) more

-- the bytes that came on it
abbrev pub came_by : List ℕ → SidesCall → List ℕ
came_by before (connects is_kept now true) = []
came_by before (connects_streamed is_kept limits now true) = []
came_by before (endpoint_gives (comes bytes) now told reply) = before ++ bytes
came_by before (streams (comes bytes) now told telling) = before ++ bytes
came_by before other = before

abbrev pub came_in : List ℕ → List SidesCall → List ℕ
came_in before [] = before
came_in before (call ∷ more) = came_in (came_by before call) more

-- what the client took of the response that is passed on since the connection became that of its request
abbrev pub passed_by : List ℕ → SidesCall → List ℕ
passed_by before (connects_streamed is_kept limits now true) = []
passed_by before (client_takes true bytes now told telling) = before ++ bytes
passed_by before other = before

abbrev pub passed_in : List ℕ → List SidesCall → List ℕ
passed_in before [] = before
passed_in before (call ∷ more) = passed_in (passed_by before call) more

abbrev pub one_if : Bool → ℕ
one_if true = 1
one_if false = 0

-- a request is sent again
abbrev pub dials_again : EndpointStep → Bool
dials_again steps.DialsAgain = true
dials_again other = false

abbrev pub again_by : SidesCall → ℕ
again_by (endpoint_gives event now told reply) = one_if (dials_again told)
again_by (streams event now told telling) = one_if (dials_again told)
again_by (client_takes passed bytes now told telling) = one_if (dials_again told)
again_by other = 0

abbrev pub again_in : List SidesCall → ℕ
again_in [] = 0
again_in (call ∷ more) = again_by call + again_in more

-- no request enters
abbrev pub enters_none : SidesCall → Bool
enters_none (enters (Some request)) = false
enters_none other = true
