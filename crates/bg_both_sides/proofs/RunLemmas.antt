-- What calls, one after the other, make of the two sides of a client's connection.
use Rattle.std.proofs.Common.{◌≡◌, ◌∙◌, ℕ, Bool, true, false, List, [], ◌∷◌, length, refl, sym, ap, subst, Option, Some, None}
use Rattle.bg_http.specs.Elements.{Field}
use Rattle.bg_http.specs.declared.request.Request.{Request}
use Rattle.bg_client_side.specs.Clients.{Client, stays_after, taken}
use Rattle.bg_client_side.specs.Runs.{Calls, ClientCall, Runs, answers, begins_closing, begins_passing_on, continues, cuts, discards, ends_input, fails, feeds, looks, passes_on, takes, writes}
use Rattle.bg_client_side.specs.Stages.{is_inside, waiting_request}
use Rattle.bg_client_side.specs.declared.reading.Fed.{Fed}
use Rattle.bg_endpoint_side.specs.Dialing.{Forwarded}
use Rattle.bg_endpoint_side.specs.Forwarding.{Ends, Receives, failed, unread, with_end, wrote}
use Rattle.bg_endpoint_side.specs.Laws.{TextStays}
use Rattle.bg_both_sides.proofs.ClientLemmas.{IsAt, closing_alike, continued_alike, continued_at, discarded_alike, ended_alike, failed_alike, fault_alike, fed_alike, fed_at, looked_alike, wrote_alike, wrote_at}
use Rattle.bg_both_sides.proofs.SoundLemmas.{begins_sound, changed_sound, dialing_sound, dials_sound, ending_is, ends_is, entered_sound, fails_is, forwarded_sound, gives_up_sound, looks_sound, receives_is, refuses_sound, sound_alike, unread_is, wrote_is}
use Rattle.bg_both_sides.proofs.UpgradeLemmas.{accepts_runs}
use Rattle.bg_both_sides.specs.Answers.{Reply}
use Rattle.bg_both_sides.specs.ClientEvents.{entered_as}
use Rattle.bg_both_sides.specs.EndpointEvents.{IsOnce, dial_failed, on_forwarded, takes_connection, with_fields}
use Rattle.bg_both_sides.specs.Laws.{RunsItsClient}
use Rattle.bg_both_sides.specs.Runs.{EndpointEvent, SidesCall, SidesCalls, Happens, IsReading, breaks, client_calls, client_calls_in, StepsBy, client_takes, comes, connects, connects_streamed, dial_fails, dials, endpoint_gives, endpoint_is_ending, endpoint_reads_no_more, endpoint_writes, ends, enters, given_up, is_note, notes, passes, reads, refuses, reply_calls, streams, replaces_fields, accepts_upgrade}
use Rattle.bg_both_sides.specs.Sides.{IsSound, Sides, is_streaming}
use Rattle.bg_both_sides.specs.StreamedEvents.{AtStreamed, Telling}
use Rattle.bg_both_sides.specs.declared.endpoint_side.EndpointSide.TheVariants as side
use Rattle.bg_both_sides.specs.declared.endpoint_side.EndpointSide.{EndpointSide}
use Rattle.bg_both_sides.specs.declared.endpoint_step.EndpointStep.{EndpointStep}
use Rattle.bg_both_sides.proofs.AnswerRuns.{dialing_runs, fault_runs, forwarded_runs, gives_up_runs, looks_runs, refuses_runs, runs_on}
use Rattle.bg_both_sides.proofs.StreamedSteps.{connects_sound, streams_step, takes_runs, takes_sound}

-- the facts that the laws of the endpoints' side give
abbrev pub StayLaw : Type 0
StayLaw = (f : Forwarded) (bytes : List ℕ) (count now : ℕ) → TextStays f bytes count now

happens_runs : (event : EndpointEvent) (old : Sides) (now : ℕ) (told : EndpointStep) (reply : Option Reply) (new : Sides)
    → IsSound old.client old.endpoint → Happens event old now told reply new
    → Runs old.client (reply_calls reply now) new.client
happens_runs (comes bytes) old now told reply new sound is =
    forwarded_runs (λ f next. Receives f bytes now next) old.endpoint now old.client told reply new sound is
happens_runs ends old now told reply new sound is =
    forwarded_runs (λ f next. Ends f now next × IsOnce f next) old.endpoint now old.client told reply new sound is
happens_runs breaks old now told reply new sound is =
    forwarded_runs (λ f next. (next ≡ failed f now) × IsOnce f next) old.endpoint now old.client told reply new sound is
happens_runs (dial_fails why) old now told reply new sound is =
    dialing_runs (λ d. dial_failed why) old.endpoint now old.client told reply new sound is
happens_runs passes old now told reply new sound is = looks_runs old.endpoint now old.client told reply new sound is
happens_runs (given_up why) old now told reply new sound is =
    gives_up_runs why old.endpoint now old.client told reply new sound is

happens_sound : (event : EndpointEvent) (old : Sides) (now : ℕ) (told : EndpointStep) (reply : Option Reply) (new : Sides)
    → IsSound old.client old.endpoint → Happens event old now told reply new → IsSound new.client new.endpoint
happens_sound (comes bytes) old now told reply new sound is =
    forwarded_sound (λ f next. Receives f bytes now next) old.endpoint now old.client told reply new
    (λ request f next sent is. receives_is request f bytes now next sent is) sound is
happens_sound ends old now told reply new sound is =
    forwarded_sound (λ f next. Ends f now next × IsOnce f next) old.endpoint now old.client told reply new
    (λ request f next sent is. ends_is request f now next sent is.0) sound is
happens_sound breaks old now told reply new sound is =
    forwarded_sound (λ f next. (next ≡ failed f now) × IsOnce f next) old.endpoint now old.client told reply new
    (λ request f next sent is. fails_is request f now next sent is.0) sound is
happens_sound (dial_fails why) old now told reply new sound is =
    dialing_sound (λ d. dial_failed why) old.endpoint now old.client told reply new sound is
happens_sound passes old now told reply new sound is = looks_sound old.endpoint now old.client told reply new sound is
happens_sound (given_up why) old now told reply new sound is =
    gives_up_sound why old.endpoint now old.client told reply new sound is

-- an event, by which a response is passed on, or none is
pub gives_sound : (event : EndpointEvent) (e : EndpointSide) (now : ℕ) (client : Client) (told : EndpointStep) (new : Sides)
    → IsSound client e
    → (is_streaming e ≡ false → (reply : Option Reply) × Happens event (record { client = client; endpoint = e }) now told reply new)
    → (is_streaming e ≡ true → (telling : Telling) × AtStreamed (StepsBy event now) e now client told telling new)
    → IsSound new.client new.endpoint
gives_sound event e now client told new sound plain streaming = go (is_streaming e) refl where
  go : (b : Bool) → is_streaming e ≡ b → IsSound new.client new.endpoint
  go false here =
      let is = plain here in
      happens_sound event (record { client = client; endpoint = e }) now told is.0 new sound is.1
  go true here = let is = streaming here in (streams_step event e now client told is.0 new sound is.1).1

-- a call that reads leaves a request inside as it was, and what is no request is refused
reading : (call : ClientCall) (result : Fed) (now : ℕ) (old read : Client) → IsReading call result now
    → Calls old call read → (is_inside read.stage ≡ is_inside old.stage) × IsAt result read
reading (feeds bytes at told whole) result now old read is calls =
    (fed_alike old bytes at told read calls.0, subst (λ r. IsAt r read) is.0 (fed_at old bytes at told read calls.0))
reading (continues told whole) result now old read is calls =
    (continued_alike old told read calls.0, subst (λ r. IsAt r read) is (continued_at old told read calls.0))
reading (writes bytes at told whole) result now old read is calls = (
  wrote_alike old (length bytes) at told read calls.1,
  subst (λ r. IsAt r read) is.0 (wrote_at old (length bytes) at told read calls.1),
)
reading (takes request) result now old read is calls = absurd is
reading (answers text weight persistence at awaited) result now old read is calls = absurd is
reading (begins_passing_on persistence at begun) result now old read is calls = absurd is
reading (passes_on bytes waits at passed) result now old read is calls = absurd is
reading (cuts was) result now old read is calls = absurd is
reading ends_input result now old read is calls = absurd is
reading begins_closing result now old read is calls = absurd is
reading fails result now old read is calls = absurd is
reading (discards count) result now old read is calls = absurd is
reading (looks at) result now old read is calls = absurd is

noting : (call : ClientCall) (old new : Client) → is_note call ≡ true → Calls old call new
    → is_inside new.stage ≡ is_inside old.stage
noting (feeds bytes at told whole) old new is calls = absurd (cc)
noting (continues told whole) old new is calls = absurd (cc)
noting (takes request) old new is calls = absurd (cc)
noting (answers text weight persistence at awaited) old new is calls = absurd (cc)
noting (begins_passing_on persistence at begun) old new is calls = absurd (cc)
noting (passes_on bytes waits at passed) old new is calls = absurd (cc)
noting (cuts was) old new is calls = absurd (cc)
noting (writes bytes at told whole) old new is calls = absurd (cc)
noting ends_input old new is calls = ap (λ (n : Client). is_inside n.stage) calls ∙ ended_alike old
noting begins_closing old new is calls = ap (λ (n : Client). is_inside n.stage) calls ∙ closing_alike old
noting fails old new is calls = ap (λ (n : Client). is_inside n.stage) calls ∙ failed_alike old
noting (discards count) old new is calls = ap (λ (n : Client). is_inside n.stage) calls ∙ discarded_alike old count
noting (looks at) old new is calls = ap (λ (n : Client). is_inside n.stage) calls ∙ looked_alike old at

same_endpoint : (client : Client) (old new : EndpointSide) → new ≡ old → IsSound client old → IsSound client new
same_endpoint client old new is sound = subst (IsSound client) (sym is) sound

same_client : (old new : Client) (endpoint : EndpointSide) → new ≡ old → IsSound old endpoint → IsSound new endpoint
same_client old new endpoint is sound = subst (λ c. IsSound c endpoint) (sym is) sound

entered_client : (request : Option Request) (sides : Sides) → (entered_as request sides).client ≡ taken request sides.client
entered_client None sides = refl
entered_client (Some request) sides = refl

fields_sound : (endpoint : EndpointSide) (fields : List Field) (client : Client) → IsSound client endpoint
    → IsSound client (with_fields fields endpoint)
fields_sound side.NoRequest fields client sound = sound
fields_sound (side.Entered request) fields client sound = sound
fields_sound (side.Dialing request d) fields client sound = sound
fields_sound (side.Forwarding request f) fields client sound = sound
fields_sound (side.Streaming request s) fields client sound = sound

-- one call
pub runs_step : StayLaw → (old : Sides) (call : SidesCall) (new : Sides) → IsSound old.client old.endpoint
    → SidesCalls old call new → Runs old.client (client_calls call) new.client × IsSound new.client new.endpoint
runs_step law old (reads call result now answer) new sound is =
    let facts = reading call result now old.client is.1.0 is.0 is.1.1 in
    let alike = fault_alike result now is.1.0 answer new.client facts.1 is.1.2 ∙ facts.0 in (
      (is.1.0, is.1.1, fault_runs result now is.1.0 answer new.client facts.1 is.1.2),
      same_endpoint new.client old.endpoint new.endpoint is.2 (sound_alike old.client new.client old.endpoint alike sound),
    )
runs_step law old (notes call) new sound is = (
  (new.client, is.1, refl),
  same_endpoint new.client old.endpoint new.endpoint is.2
      (sound_alike old.client new.client old.endpoint (noting call old.client new.client is.0 is.1) sound),
)
runs_step law old (enters request) new sound is = (
  (
    new.client,
    (
      is.0,
      ap (λ (n : Sides). n.client) is.1 ∙ entered_client (waiting_request old.client.stage) old
          ∙ ap (λ r. taken r old.client) (sym is.0),
    ),
    refl,
  ),
  subst (λ (n : Sides). IsSound n.client n.endpoint) (sym is.1) (entered_sound (waiting_request old.client.stage) old sound),
)
runs_step law old (refuses now told reply) new sound is = (
  refuses_runs old.endpoint now old.client told reply new sound is,
  refuses_sound old.endpoint now old.client told reply new sound is,
)
runs_step law old (replaces_fields fields) new sound is = (
  sym is.0,
  same_client old.client new.client new.endpoint is.0 (same_endpoint old.client
      (with_fields fields old.endpoint) new.endpoint is.1 (fields_sound old.endpoint fields old.client sound)),
)
runs_step law old (dials route now does) new sound is = (
  sym is.0,
  same_client old.client new.client new.endpoint is.0
      (dials_sound old.endpoint route now does old.client new.endpoint sound is.1),
)
runs_step law old (connects is_kept now taken) new sound is = (
  ap (λ (n : Sides). n.client) (sym is.1),
  subst (λ (n : Sides). IsSound n.client n.endpoint) (sym is.1)
      (begins_sound old.endpoint (takes_connection is_kept old.endpoint) is_kept now old.client sound),
)
runs_step law old (endpoint_writes bytes now) new sound is = (
  sym is.1,
  same_client old.client new.client new.endpoint is.1
      (same_endpoint old.client (on_forwarded (λ f. wrote f (length bytes) now) old.endpoint) new.endpoint is.2
      (changed_sound (λ f. wrote f (length bytes) now) old.endpoint old.client
      (λ request f sent. wrote_is request f (length bytes) now (law f [] (length bytes) now).after_write sent) sound)),
)
runs_step law old (endpoint_reads_no_more now) new sound is = (
  sym is.0,
  same_client old.client new.client new.endpoint is.0 (same_endpoint old.client
      (on_forwarded (λ f. unread f now) old.endpoint) new.endpoint is.1 (changed_sound (λ f. unread f now) old.endpoint old.client (unread_is now) sound)),
)
runs_step law old endpoint_is_ending new sound is = (
  sym is.0,
  same_client old.client new.client new.endpoint is.0 (same_endpoint old.client
      (on_forwarded with_end old.endpoint) new.endpoint is.1 (changed_sound with_end old.endpoint old.client ending_is sound)),
)
runs_step law old (endpoint_gives event now told reply) new sound is =
    (happens_runs event old now told reply new sound is, happens_sound event old now told reply new sound is)
runs_step law old (connects_streamed is_kept limits now taken) new sound is = (
  sym is.0,
  same_client old.client new.client new.endpoint is.0
      (connects_sound old.endpoint is_kept limits now (stays_after old.client) taken old.client new.endpoint sound is.1),
)
runs_step law old (streams event now told telling) new sound is =
    streams_step event old.endpoint now old.client told telling new sound is
runs_step law old (client_takes passing bytes now told telling) new sound is = (
  takes_runs old.endpoint passing bytes now old.client told telling new is.0 sound is.2,
  takes_sound old.endpoint (length bytes) now old.client told telling new sound is.2,
)
runs_step law old (accepts_upgrade bytes now weight upgraded) new sound is =
    accepts_runs old bytes now weight upgraded new sound is

pub runs_its_client : StayLaw → (calls : List SidesCall) (old new : Sides) → RunsItsClient old calls new
runs_its_client law [] old new sound is =
    (ap (λ (n : Sides). n.client) is, subst (λ (n : Sides). IsSound n.client n.endpoint) is sound)
runs_its_client law (call ∷ more) old new sound is =
    let first = runs_step law old call is.0 sound is.1 in
    let others = runs_its_client law more is.0 new first.1 is.2 in
    (runs_on (client_calls call) (client_calls_in more) old.client is.0.client new.client first.0 others.0, others.1)
