-- What is given as the rest of a response that is passed on.
use Rattle.std.proofs.Common.{◌≡◌, ◌∙◌, ℕ, Bool, true, false, ◌&&◌, cond, List, [], ◌++◌, length, take, refl, sym, ap, subst, append-nil, OnOk, Result, Ok, Err}
use Rattle.std.proofs.Math.Seq.{take-append_seam}
use Rattle.bg_http.specs.declared.persistence.Persistence.{Persistence}
use Rattle.bg_http.specs.declared.request.Request.{Request}
use Rattle.bg_client_side.specs.Clients.{Client, passed_at}
use Rattle.bg_client_side.specs.Stages.{is_passing_on}
use Rattle.bg_client_side.specs.declared.facts.ClientSettings.{ClientSettings}
use Rattle.bg_streams.specs.ResponseRelays.{is_whole, passing_of, rest_of}
use Rattle.bg_streams.specs.ResponseStreams.{StandsFor, is_begun, relay_of}
use Rattle.bg_streams.specs.declared.stream_fault.StreamFault.{StreamFault}
use Rattle.bg_streams.specs.declared.stream_fault.StreamFault.TheVariants as stream_fault
use Rattle.bg_endpoint_side.specs.Forwarding.{again, late_health, may_repeat}
use Rattle.bg_endpoint_side.specs.Outcomes.{health_of, of_giving_up}
use Rattle.bg_endpoint_side.specs.StreamedSteps.{Becomes, EndsIf, EndsUnread, GoesOnBy, TakesStreamed, broken, broken_by}
use Rattle.bg_endpoint_side.specs.Streaming.{Streamed, is_late}
use Rattle.bg_endpoint_side.specs.declared.outcome.ForwardFault.{ForwardFault}
use Rattle.bg_endpoint_side.specs.declared.outcome.ForwardFault.TheVariants as fault
use Rattle.bg_endpoint_side.specs.declared.outcome.Health.{Health}
use Rattle.bg_endpoint_side.specs.declared.streamed_step.StreamedAnswer.{StreamedAnswer}
use Rattle.bg_endpoint_side.specs.declared.streamed_step.StreamedStep.{StreamedStep}
use Rattle.bg_endpoint_side.specs.declared.streamed_step.StreamedStep.TheVariants as streamed
use Rattle.bg_both_sides.proofs.RunLemmas.{StayLaw}
use Rattle.bg_both_sides.proofs.StandsLemmas.{Stands, stands_run}
use Rattle.bg_both_sides.specs.Laws.{EndsByItsClient, EndsByItsEndpoint, EndsItsResponse, IsRestOf, begun}
use Rattle.bg_both_sides.specs.Runs.{EndpointEvent, SidesCall, StepsBy, breaks, came_by, came_in, comes, dial_fails, ends as input_ends, given_up, passed_in, passes, streams}
use Rattle.bg_both_sides.specs.Sides.{Sides, is_streaming, to_client}
use Rattle.bg_both_sides.specs.StreamedEvents.{AtStreamed, ClientTakes, ClientTakesOf, CutsIf, FollowsStreamed, Telling, ends}
use Rattle.bg_both_sides.specs.declared.endpoint_side.EndpointSide.{EndpointSide}
use Rattle.bg_both_sides.specs.declared.endpoint_side.EndpointSide.TheVariants as side
use Rattle.bg_both_sides.specs.declared.endpoint_step.EndpointStep.{EndpointStep}

-- a response without a fault that is whole
whole_of : (after : Streamed) (result : Result (Unit {0}) StreamFault) (answer : StreamedAnswer) (request : Request)
    (came passed : List ℕ) → Becomes after result (streamed.Whole answer) → OnOk result (StandsFor after.stream request came passed)
    → IsRestOf request came passed answer.rest.items
whole_of after (Ok x) answer request came passed is stands = go (is_whole (passing_of (relay_of after.stream))) refl is where
  go : (whole : Bool) → is_whole (passing_of (relay_of after.stream)) ≡ whole → GoesOnBy whole after (streamed.Whole answer)
      → IsRestOf request came passed answer.rest.items
  go false here is = absurd (cc)
  go true here is = record { stream = after.stream; stands = stands; whole = here; text_is = is.rest_is }
whole_of after (Err (stream_fault.Refused named)) answer request came passed is stands = absurd (cc)
whole_of after (Err (stream_fault.Cut named)) answer request came passed is stands = absurd (cc)

pub not_broken : (begun : Bool) (why : ForwardFault) (told : Health) (answer : StreamedAnswer)
    → streamed.Whole answer ≡ broken begun why told → ⊥
not_broken true why told answer is = cc
not_broken false why told answer is = cc

whole_by : (event : EndpointEvent) (s : Streamed) (request : Request) (now : ℕ) (told : EndpointStep) (telling : Telling)
    (answer : StreamedAnswer) (came passed : List ℕ) → StandsFor s.stream request came passed → StepsBy event now s (streamed.Whole answer)
    → IsRestOf request (came_by came (streams event now told telling)) passed answer.rest.items
whole_by (comes bytes) s request now told telling answer came passed stands is =
    whole_of is.after is.result answer request (came ++ bytes) passed is.becomes
    (subst (λ l. OnOk is.result (StandsFor is.after.stream request (came ++ bytes) l)) (append-nil passed)
    (is.stream_is.stands request came passed stands))
whole_by input_ends s request now told telling answer came passed stands is = go (may_repeat s.forwarded) is.0 where
  unread : (b : Bool) → EndsUnread b s (streamed.Whole answer) → IsRestOf request came passed answer.rest.items
  unread true is = absurd (not_broken (is_begun s.stream) fault.ConnectFailed (health_of s.forwarded.came) answer is)
  unread false is =
      whole_of is.after is.result answer request came passed is.becomes (is.stream_is.stands request came passed stands)

  go : (b : Bool) → EndsIf b s now (streamed.Whole answer) → IsRestOf request came passed answer.rest.items
  go true is = absurd (cc)
  go false is = unread s.forwarded.state.is_unread is
whole_by breaks s request now told telling answer came passed stands is = go (may_repeat s.forwarded) is.0 where
  go : (b : Bool) → streamed.Whole answer ≡ cond b (streamed.Again (again s.forwarded now)) (broken_by s fault.ConnectFailed)
      → IsRestOf request came passed answer.rest.items
  go true is = absurd (cc)
  go false is = absurd (not_broken (is_begun s.stream) fault.ConnectFailed (health_of s.forwarded.came) answer is)
whole_by (dial_fails why) s request now told telling answer came passed stands is = absurd is
whole_by passes s request now told telling answer came passed stands is = go (is_late s now) is where
  go : (b : Bool)
      → streamed.Whole answer
      ≡ cond b (broken (is_begun s.stream) fault.ResponseTimeout (late_health s.forwarded now)) (streamed.GoesOn s)
      → IsRestOf request came passed answer.rest.items
  go true is = absurd (not_broken (is_begun s.stream) fault.ResponseTimeout (late_health s.forwarded now) answer is)
  go false is = absurd (cc)
whole_by (given_up why) s request now told telling answer came passed stands is =
    absurd (not_broken (is_begun s.stream) (of_giving_up why) (health_of s.forwarded.came) answer is)

-- the rest of a response is told only of one that is whole
told_whole : (request : Request) (next : StreamedStep) (now : ℕ) (client : Client) (told : EndpointStep) (text : List ℕ) (weight : ℕ)
    (persistence : Persistence) (new : Sides) (P : List ℕ → Type 0)
    → ((answer : StreamedAnswer) → next ≡ streamed.Whole answer → P answer.rest.items)
    → FollowsStreamed request next now client told (ends text weight persistence) new → P text
told_whole request (streamed.GoesOn s) now client told text weight persistence new P whole is =
    let wrong = is.2.telling_is in absurd (cc)
told_whole request (streamed.Again d) now client told text weight persistence new P whole is = absurd (cc)
told_whole request (streamed.Whole answer) now client told text weight persistence new P whole is =
    let given = is.1.telling_is in
    let same : answer.rest.items ≡ text = cc in
    subst P same (whole answer refl)
told_whole request (streamed.Refused why told_of) now client told text weight persistence new P whole is =
    let wrong = is.1 in absurd (cc)
told_whole request (streamed.Cut why told_of) now client told text weight persistence new P whole is =
    go (is_passing_on client.stage) is where
      go : (b : Bool) → CutsIf b request why told_of now client told (ends text weight persistence) new → P text
      go true is = let wrong = is.1 in absurd (cc)
      go false is = let wrong = is.1 in absurd (cc)

ends_at : (event : EndpointEvent) (old : Sides) (e : EndpointSide) (now : ℕ) (told : EndpointStep) (text : List ℕ) (weight : ℕ)
    (persistence : Persistence) (new : Sides) (came passed : List ℕ) → old.endpoint ≡ e → Stands e came passed
    → AtStreamed (StepsBy event now) e now old.client told (ends text weight persistence) new
    → EndsItsResponse old (came_by came (streams event now told (ends text weight persistence))) passed text
ends_at event old side.NoRequest now told text weight persistence new came passed at_is stands is = absurd is
ends_at event old (side.Entered request) now told text weight persistence new came passed at_is stands is = absurd is
ends_at event old (side.Dialing request d) now told text weight persistence new came passed at_is stands is = absurd is
ends_at event old (side.Forwarding request f) now told text weight persistence new came passed at_is stands is = absurd is
ends_at event old (side.Streaming request s) now told text weight persistence new came passed at_is stands is = (
  request,
  s,
  at_is,
  told_whole request is.0 now old.client told text weight persistence new
      (IsRestOf request (came_by came (streams event now told (ends text weight persistence))) passed)
      (λ answer whole. whole_by event s request now told (ends text weight persistence) answer came passed stands
      (subst (StepsBy event now s) whole is.1)) is.2,
)

pub ends_by_its_endpoint : StayLaw → (settings : ClientSettings) (now : ℕ) (calls : List SidesCall) (old : Sides)
    (event : EndpointEvent) (at : ℕ) (told : EndpointStep) (text : List ℕ) (weight : ℕ) (persistence : Persistence) (new : Sides)
    → EndsByItsEndpoint settings now calls old event at told text weight persistence new
ends_by_its_endpoint law settings now calls old event at told text weight persistence new runs is =
    ends_at event old old.endpoint at told text weight persistence new (came_in [] calls) (passed_in [] calls) refl
    (stands_run law calls (begun settings now) old [] [] refl tt runs) is

takes_whole : (s : Streamed) (request : Request) (bytes rest : List ℕ) (now : ℕ) (answer : StreamedAnswer) (came passed : List ℕ)
    → rest_of (passing_of (relay_of s.stream)) ≡ bytes ++ rest → StandsFor s.stream request came passed
    → TakesStreamed s (length bytes) now (streamed.Whole answer) → IsRestOf request came (passed ++ bytes) answer.rest.items
takes_whole s request bytes rest now answer came passed first stands is =
    whole_of is.after is.result answer request came (passed ++ bytes) is.becomes
    (subst (λ l. OnOk is.result (StandsFor is.after.stream request l (passed ++ bytes))) (append-nil came)
    (subst (λ l. OnOk is.result (StandsFor is.after.stream request (came ++ []) (passed ++ l)))
    (ap (take (length bytes)) first ∙ take-append_seam bytes rest) (is.stream_is.stands request came passed stands)))

takes_at : (old : Sides) (e : EndpointSide) (bytes rest : List ℕ) (now : ℕ) (told : EndpointStep) (text : List ℕ) (weight : ℕ)
    (persistence : Persistence) (new : Sides) (came passed : List ℕ) → old.endpoint ≡ e
    → true ≡ (is_streaming e && is_passing_on old.client.stage) → to_client e ≡ bytes ++ rest → Stands e came passed
    → ClientTakes e (length bytes) now old.client told (ends text weight persistence) new
    → EndsItsResponse old came (passed ++ bytes) text
takes_at old side.NoRequest bytes rest now told text weight persistence new came passed at_is here first stands is = absurd (cc)
takes_at old (side.Entered request) bytes rest now told text weight persistence new came passed at_is here first stands is = absurd (cc)
takes_at old (side.Dialing request d) bytes rest now told text weight persistence new came passed at_is here first stands is = absurd (cc)
takes_at old (side.Forwarding request f) bytes rest now told text weight persistence new came passed at_is here first stands is =
    absurd (cc)
takes_at old (side.Streaming request s) bytes rest now told text weight persistence new came passed at_is here first stands is =
    let taken = subst (λ b. ClientTakesOf b request s (length bytes) now old.client told (ends text weight persistence) new)
    (sym here) is in (
      request,
      s,
      at_is,
      told_whole request taken.0 now (passed_at old.client.stage (length bytes) true now old.client) told text weight persistence new
          (IsRestOf request came (passed ++ bytes))
          (λ answer whole. takes_whole s request bytes rest now answer came passed first stands
          (subst (TakesStreamed s (length bytes) now) whole taken.1)) taken.2,
    )

pub ends_by_its_client : StayLaw → (settings : ClientSettings) (now : ℕ) (calls : List SidesCall) (old : Sides) (bytes : List ℕ)
    (at : ℕ) (told : EndpointStep) (text : List ℕ) (weight : ℕ) (persistence : Persistence) (new : Sides)
    → EndsByItsClient settings now calls old bytes at told text weight persistence new
ends_by_its_client law settings now calls old bytes at told text weight persistence new runs is =
    takes_at old old.endpoint bytes is.1.0 at told text weight persistence new (came_in [] calls) (passed_in [] calls) refl is.0 is.1.1
    (stands_run law calls (begun settings now) old [] [] refl tt runs) is.2
