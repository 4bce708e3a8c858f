-- A connection of a client, and what events make of it.
use Rattle.std.specs.Prelude.{◌≡◌, ℕ, ◌==◌, Bool, true, false, ◌&&◌, ◌||◌, if◌then◌else◌, List, [], ◌∷◌, ◌++◌, min, not, nat_le, nat_lt, IsFalse, Option, Some, None}
use Rattle.bg_http.specs.Persistences.{keeps}
use Rattle.bg_http.specs.declared.persistence.Persistence.{Persistence}
use Rattle.bg_http.specs.declared.request.Request.{Request}
use Rattle.bg_http_read.specs.RefusedHeads.{TellsHead}
use Rattle.bg_http_read.specs.RequestStates.{IsReadThen, IsRefusedAsked, LacksRequest, OwesContinue, is_of_stream}
use Rattle.bg_http_read.specs.declared.refused_head.RefusedHead.{RefusedHead}
use Rattle.bg_client_side.specs.Outgoing.{Outgoing, with_written}
use Rattle.bg_client_side.specs.Facts.{asks_to_keep, keeps_after, later, next_facts}
use Rattle.bg_client_side.specs.Stages.{as_answering, awaits_answer, goes_on, has_timeout, is_handed_out, is_idle, is_inside, is_passing_on, owes_continue, reads, takes_bytes, was_whole}
use Rattle.bg_client_side.specs.declared.facts.ClientFacts.{ClientFacts}
use Rattle.bg_client_side.specs.declared.facts.ClientSettings.{ClientSettings}
use Rattle.bg_client_side.specs.declared.reading.Fed.{Fed}
use Rattle.bg_client_side.specs.declared.reading.Fed.TheVariants as fed
use Rattle.bg_client_side.specs.declared.stage.Answering.{Answering}
use Rattle.bg_client_side.specs.declared.stage.Lingering.{Lingering}
use Rattle.bg_client_side.specs.declared.stage.PassingOn.{PassingOn}
use Rattle.bg_client_side.specs.declared.stage.Stage.{Stage}
use Rattle.bg_client_side.specs.declared.stage.Stage.TheVariants as stage

-- all bytes that came since the end of the last request, whether `100 Continue` was owed since then, the head of what came
-- and is no request, the stage, and what else is known of the connection
pub record Client : Type 0 where
  pub since : List ℕ
  pub asked : Bool
  pub refused : Option RefusedHead
  pub stage : Stage
  pub facts : ClientFacts

-- the connection at another stage
abbrev pub at : Stage → Client → Client
at new c = record c { stage = new }

-- the same with a timeout that ends then
abbrev pub at_until : Stage → ℕ → Client → Client
at_until new until c = record c { stage = new; facts = record c.facts { until = until } }

-- the connection leaves
abbrev pub left : Client → Client
left c = at stage.Left c

-- a connection at this stage, of which no byte came
abbrev pub opened : Stage → ClientSettings → ℕ → Client
opened first settings until = record {
  since = [];
  asked = false;
  refused = None;
  stage = first;
  facts = record {
    settings = settings;
    answered = 0;
    is_to_stay = false;
    until = until;
    has_ended = false;
    has_failed = false;
    is_closing = false;
  };
}

-- a connection that was accepted now
abbrev pub accepted : ClientSettings → ℕ → Client
accepted settings now = opened stage.Reading settings (later now settings.request_millis)

-- one whose request waits for a seat, and comes as it is forwarded
abbrev pub with_large : ClientSettings → Request → Client
with_large settings request = opened (stage.Waiting request) settings 0

-- one that ends after this answer
abbrev pub with_last_answer : ClientSettings → Outgoing → Bool → ℕ → Client
with_last_answer settings text was_whole now =
    opened (stage.Answering (record { text = text; goes_on = false; was_whole = was_whole; last = later now 600000 }))
    settings (later now 30000)

-- one that has left
abbrev pub without_any : ClientSettings → Client
without_any settings = opened stage.Left settings 0

-- READING

-- bytes came at a stage: the first one begins a request
abbrev pub begun_at : Stage → List ℕ → ℕ → Client → Client
begun_at stage.Idle (byte ∷ bytes) now c = at_until stage.Reading (later now c.facts.settings.request_millis) c
begun_at other bytes now c = c

abbrev pub begun : Client → List ℕ → ℕ → Client
begun c bytes now = begun_at c.stage bytes now c

-- these bytes came after those before
abbrev pub with_bytes : Client → List ℕ → Client
with_bytes c bytes = record c { since = c.since ++ bytes }

-- no request is whole: the connection leaves if no byte can come, and if it is idle in a shutdown
abbrev pub rests : Client → Client
rests c = if c.facts.has_ended || (is_idle c.stage && c.facts.is_closing) then left c else c

-- `100 Continue` is owed
abbrev pub continuing : Client → Client
continuing c = record c { asked = true; stage = stage.Continuing }

-- the request is whole, and these bytes are left behind it
abbrev pub received : Request → List ℕ → Client → Client
received request behind c = record c {
  since = behind;
  asked = false;
  refused = None;
  stage = stage.Waiting request;
  facts = record c.facts { is_to_stay = asks_to_keep request };
}

-- bytes came for a request
abbrev pub ReadsOn : Client → List ℕ → Fed → Client → Type 0
ReadsOn c bytes fed.NotReading new = ⊥
ReadsOn c bytes fed.More new = (new ≡ rests (with_bytes c bytes)) × LacksRequest (c.since ++ bytes)
ReadsOn c bytes fed.OwesContinue new =
    (c.asked ≡ false) × (new ≡ continuing (with_bytes c bytes)) × OwesContinue (c.since ++ bytes)
ReadsOn c bytes fed.Whole new =
    (request : Request) × (new ≡ received request new.since c)
    × IsReadThen c.asked request (c.since ++ bytes) new.since
ReadsOn c bytes (fed.Refused named) new =
    (new.stage ≡ stage.Refused named) × (new.facts ≡ c.facts) × IsRefusedAsked c.asked named (c.since ++ bytes)
    × IsFalse (is_of_stream named) × TellsHead (c.since ++ bytes) named new.refused

-- bytes came, and the stage reads a request, or does not
abbrev pub FeedsIf : Bool → Client → List ℕ → ℕ → Fed → Client → Type 0
FeedsIf true c bytes now result new = ReadsOn (begun c bytes now) bytes result new
FeedsIf false c bytes now result new = (result ≡ fed.NotReading) × (new ≡ c)

abbrev pub Feeds : Client → List ℕ → ℕ → Fed → Client → Type 0
Feeds c bytes now result new = FeedsIf (reads c.stage) c bytes now result new

-- `100 Continue` was written: what waits is read; nothing changes if it was not owed
abbrev pub ContinuesIf : Bool → Client → Fed → Client → Type 0
ContinuesIf true c result new = ReadsOn (at stage.Reading c) [] result new
ContinuesIf false c result new = (result ≡ fed.NotReading) × (new ≡ c)

abbrev pub Continues : Client → Fed → Client → Type 0
Continues c result new = ContinuesIf (owes_continue c.stage) c result new

-- THE REQUEST AND ITS ANSWER

-- the request that waits is handed out, if one does
abbrev pub taken : Option Request → Client → Client
taken (Some request) c = at stage.Inside c
taken None c = c

-- the connection goes on after the answer to the request at hand, which was read whole; so it was said in the head of a
-- response that is passed on
abbrev pub stays_after : Client → Bool
stays_after c = goes_on c.stage && was_whole c.stage && keeps_after c.facts

-- a connection on which this answer is written
abbrev pub answering : Outgoing → Persistence → ℕ → Client → Client
answering text persistence now c =
    at_until (stage.Answering (record {
      text = text;
      goes_on = keeps persistence && stays_after c;
      was_whole = was_whole c.stage;
      last = later now 600000;
    })) (later now 30000) c

-- an answer is given: it is written, unless the connection has failed; nothing changes if none is awaited
abbrev pub answered : Outgoing → Persistence → ℕ → Client → Client
answered text persistence now c =
    if awaits_answer c.stage then (if c.facts.has_failed then left c else answering text persistence now c) else c

-- A RESPONSE THAT IS PASSED ON

-- a response may begin to be passed on: the request is inside, nothing of its response was passed on, and the connection has
-- not failed
abbrev pub may_pass_on : Client → Bool
may_pass_on c = is_handed_out c.stage && not c.facts.has_failed

-- a connection on which a response is passed on, of which bytes wait
abbrev pub passing_on : Persistence → ℕ → Client → Client
passing_on persistence now c =
    at_until (stage.PassingOn (record { goes_on = keeps persistence && stays_after c; waits = true })) (later now 30000) c

-- a response begins to be passed on, if it may
abbrev pub begun_passing_on : Persistence → ℕ → Client → Client
begun_passing_on persistence now c = if may_pass_on c then passing_on persistence now c else c

-- when the timeout of such a response ends after so many bytes of it were written: it is renewed if a byte was, and if bytes
-- begin to wait
abbrev pub until_passed : PassingOn → ℕ → Bool → ℕ → ℕ → ℕ
until_passed p count waits until now =
    if nat_lt 0 count || (waits && not p.waits) then later now 30000 else until

-- so many bytes of it were written, and more wait or not; nothing changes if no response is passed on
abbrev pub passed_at : Stage → ℕ → Bool → ℕ → Client → Client
passed_at (stage.PassingOn p) count waits now c =
    at_until (stage.PassingOn (record p { waits = waits })) (until_passed p count waits c.facts.until now) c
passed_at other count waits now c = c

-- the response cannot be passed on to its end: the connection leaves; nothing changes if no response is passed on
abbrev pub cut_off : Client → Client
cut_off c = if is_passing_on c.stage then left c else c

-- THE ANSWER IS WRITTEN

-- when the timeout of an answer ends after so many bytes of it were written: it is renewed if a byte was
abbrev pub until_after : Answering → ℕ → ℕ → ℕ → ℕ
until_after a count until now = if count == 0 then until else min (later now 30000) a.last

-- a part of the answer was written
abbrev pub written_on : Answering → ℕ → ℕ → Client → Client
written_on a count now c =
    at_until (stage.Answering (record a { text = with_written a.text count })) (until_after a count c.facts.until now) c

-- the answer was written, and the connection is idle
abbrev pub next : ℕ → Client → Client
next now c = record c { stage = stage.Idle; facts = next_facts c.facts now }

-- the last answer was written: the lingering close begins, unless the client has ended its input
abbrev pub last_written : Bool → ℕ → Client → Client
last_written was_whole now c =
    if c.facts.has_ended then left c
    else at_until (stage.Lingering (record { was_whole = was_whole; passed = 0 })) (later now 10000) c

-- an answer was written: what waits behind the request is read, if the connection goes on
abbrev pub Finishes : Bool → Bool → ℕ → Client → Fed → Client → Type 0
Finishes true was_whole now c result new = ReadsOn (next now c) [] result new
Finishes false was_whole now c result new = (result ≡ fed.NotReading) × (new ≡ last_written was_whole now c)

-- so much is left of an answer after a part of it was written
abbrev pub WritesRest : List ℕ → Answering → ℕ → ℕ → Client → Fed → Client → Type 0
WritesRest [] a count now c result new = Finishes a.goes_on a.was_whole now c result new
WritesRest (byte ∷ bytes) a count now c result new = (result ≡ fed.NotReading) × (new ≡ written_on a count now c)

-- so many bytes more of an answer were written, if one is written
abbrev pub WritesOn : Option Answering → ℕ → ℕ → Client → Fed → Client → Type 0
WritesOn (Some a) count now c result new = WritesRest (with_written a.text count).rest a count now c result new
WritesOn None count now c result new = (result ≡ fed.NotReading) × (new ≡ c)

abbrev pub Writes : Client → ℕ → ℕ → Fed → Client → Type 0
Writes c count now result new = WritesOn (as_answering c.stage) count now c result new

-- THE END

-- the client ended its input: a connection on which no request is whole leaves, and a lingering close is over
abbrev pub ended : Client → Client
ended c =
    (λ (now : Client). if takes_bytes c.stage then left now else now)
    (record c { facts = record c.facts { has_ended = true } })

-- a shutdown begins: an idle connection leaves
abbrev pub closing : Client → Client
closing c =
    (λ (now : Client). if is_idle c.stage then left now else now)
    (record c { facts = record c.facts { is_closing = true } })

-- the connection failed: it leaves, unless its request is inside
abbrev pub failed_at : Stage → Client → Client
failed_at s c = if is_inside s then record c { facts = record c.facts { has_failed = true } } else left c

-- so many bytes were discarded in a lingering close, which ends at 16 MiB
abbrev pub discarded_on : Lingering → ℕ → Client → Client
discarded_on l count c =
    if nat_lt (later l.passed count) 16777216
    then at (stage.Lingering (record l { passed = later l.passed count })) c else left c

abbrev pub discarded_at : Stage → ℕ → Client → Client
discarded_at (stage.Lingering l) count c = discarded_on l count c
discarded_at other count c = c

-- a moment: a connection is late from the moment at which its timeout ends, and has failed
abbrev pub looked : Client → ℕ → Client
looked c now = if has_timeout c.stage && nat_le c.facts.until now then failed_at c.stage c else c
