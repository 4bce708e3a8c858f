-- What becomes of the connection of a request whose response is passed on: it goes back only after the whole text of the request.
use Rattle.std.proofs.Common.{◌≡◌, ◌∙◌, ℕ, Bool, true, false, ◌&&◌, not, cond, List, [], ◌∷◌, ◌++◌, length, refl, sym, ap, subst, append-nil, Option, Some, None, Result, Ok, Err}
use Rattle.bg_http.specs.Codings.{is_empty}
use Rattle.bg_http.specs.Persistences.{keeps}
use Rattle.bg_http.specs.Removed.{says_close}
use Rattle.bg_http.specs.declared.request.Request.{Request}
use Rattle.bg_http.specs.declared.response.Response.{Response}
use Rattle.bg_client_side.specs.Clients.{Client, passed_at}
use Rattle.bg_client_side.specs.Stages.{is_passing_on}
use Rattle.bg_streams.specs.ResponseRelays.{is_whole, passing_of, response_of}
use Rattle.bg_streams.specs.ResponseStreams.{is_begun, is_drained, relay_of}
use Rattle.bg_streams.specs.declared.stream_fault.StreamFault.{StreamFault}
use Rattle.bg_streams.specs.declared.stream_fault.StreamFault.TheVariants as stream_fault
use Rattle.std.specs.Prelude.{⊤}
use Rattle.bg_endpoint_side.specs.Dialing.{Dialing, Forwarded}
use Rattle.bg_endpoint_side.specs.Forwarding.{again, is_sent, late_health, may_repeat, renew_if, with_bytes}
use Rattle.bg_endpoint_side.specs.Outcomes.{health_of, of_giving_up}
use Rattle.bg_endpoint_side.specs.OutgoingTexts.{Outgoing}
use Rattle.bg_endpoint_side.specs.StreamedSteps.{Becomes, EndsIf, EndsUnread, GoesOnBy, IsAnswerOf, TakesStreamed, broken, broken_by}
use Rattle.bg_endpoint_side.specs.Streaming.{Streamed, goes_back, is_awaited, is_late, stays}
use Rattle.bg_endpoint_side.specs.Versions.{begins_with_version}
use Rattle.bg_endpoint_side.specs.declared.outcome.ForwardFault.TheVariants as fault
use Rattle.bg_endpoint_side.specs.declared.streamed_step.StreamedAnswer.{StreamedAnswer}
use Rattle.bg_endpoint_side.specs.declared.streamed_step.StreamedStep.{StreamedStep}
use Rattle.bg_endpoint_side.specs.declared.streamed_step.StreamedStep.TheVariants as streamed
use Rattle.bg_both_sides.proofs.EndingLemmas.{not_broken}
use Rattle.bg_both_sides.proofs.StreamedLemmas.{OnStep, steps_on}
use Rattle.bg_both_sides.specs.Laws.{StreamGoesBackWhole, StreamLosesItsConnection, StreamRepeatsByRule, StreamRepeatsOnlyByRule, TakenGoesBackWhole, TakenLosesItsConnection, WasStreamedWhole}
use Rattle.bg_both_sides.specs.Runs.{EndpointEvent, StepsBy, breaks, comes, dial_fails, ends, given_up, passes}
use Rattle.bg_both_sides.specs.Sides.{IsForwarded, IsSound, Sides, is_streaming}
use Rattle.bg_both_sides.specs.StreamedEvents.{AtStreamed, ClientTakes, ClientTakesOf, CutsIf, FollowsStreamed, Telling}
use Rattle.bg_both_sides.specs.declared.endpoint_side.EndpointSide.{EndpointSide}
use Rattle.bg_both_sides.specs.declared.endpoint_side.EndpointSide.TheVariants as side
use Rattle.bg_both_sides.specs.declared.endpoint_step.Ending.{Ending}
use Rattle.bg_both_sides.specs.declared.endpoint_step.EndpointStep.{EndpointStep}
use Rattle.bg_both_sides.specs.declared.endpoint_step.EndpointStep.TheVariants as steps

-- THE WHOLE TEXT WAS WRITTEN

first_of : (a b : Bool) → (a && b) ≡ true → a ≡ true
first_of true b is = refl
first_of false b is = is

second_of : (a b : Bool) → (a && b) ≡ true → b ≡ true
second_of true b is = is
second_of false b is = absurd (cc)

empty_of : (bytes : List ℕ) → is_empty bytes ≡ true → bytes ≡ []
empty_of [] is = refl
empty_of (byte ∷ bytes) is = absurd (cc)

sent_of : (f : Forwarded) (response : Option Response) → stays f response ≡ true → f.text.rest ≡ []
sent_of f None is = absurd (cc)
sent_of f (Some response) is =
    empty_of f.text.rest (first_of (is_sent f) (keeps f.state.terms.persistence)
    (first_of (is_sent f && keeps f.state.terms.persistence) (not f.state.is_ending)
    (first_of (is_sent f && keeps f.state.terms.persistence && not f.state.is_ending) (begins_with_version f.came)
    (first_of (is_sent f && keeps f.state.terms.persistence && not f.state.is_ending && begins_with_version f.came)
    (not (says_close response.fields)) is))))

back_sent : (s : Streamed) → goes_back s ≡ true → s.forwarded.text.rest ≡ []
back_sent s is =
    sent_of s.forwarded (response_of (passing_of (relay_of s.stream)))
    (second_of (is_drained s.stream) (stays s.forwarded (response_of (passing_of (relay_of s.stream)))) is)

-- WHOLE RESPONSES

answer_of : (after : Streamed) (result : Result (Unit {0}) StreamFault) (answer : StreamedAnswer)
    → Becomes after result (streamed.Whole answer) → IsAnswerOf after answer
answer_of after (Ok x) answer is = go (is_whole (passing_of (relay_of after.stream))) is where
  go : (whole : Bool) → GoesOnBy whole after (streamed.Whole answer) → IsAnswerOf after answer
  go false is = absurd (cc)
  go true is = is
answer_of after (Err (stream_fault.Refused named)) answer is = absurd (cc)
answer_of after (Err (stream_fault.Cut named)) answer is = absurd (cc)

renewed_text : (b : Bool) (f : Forwarded) (now : ℕ) → (renew_if b f now).text ≡ f.text
renewed_text true f now = refl
renewed_text false f now = refl

came_text : (f : Forwarded) (bytes : List ℕ) (now : ℕ) → (with_bytes f bytes now).text ≡ f.text
came_text f bytes now = renewed_text (not (is_empty bytes)) (record f { came = f.came ++ bytes }) now

-- a response that is whole, whose connection goes back
abbrev IsBack : Streamed → StreamedAnswer → Type 0
IsBack s answer = (answer.goes_back ≡ true) → s.forwarded.text.rest ≡ []

back_of : (s after : Streamed) (answer : StreamedAnswer) → after.forwarded.text ≡ s.forwarded.text → IsAnswerOf after answer
    → IsBack s answer
back_of s after answer same is back =
    ap (λ (t : Outgoing). t.rest) (sym same) ∙ back_sent after (sym is.goes_back_is ∙ back)

back_by : (event : EndpointEvent) (s : Streamed) (now : ℕ) (answer : StreamedAnswer) → StepsBy event now s (streamed.Whole answer)
    → IsBack s answer
back_by (comes bytes) s now answer is =
    back_of s is.after answer (ap (λ (f : Forwarded). f.text) is.forwarded_is ∙ came_text s.forwarded bytes now)
    (answer_of is.after is.result answer is.becomes)
back_by ends s now answer is = go (may_repeat s.forwarded) is.0 where
  unread : (b : Bool) → EndsUnread b s (streamed.Whole answer) → IsBack s answer
  unread true is = absurd (not_broken (is_begun s.stream) fault.ConnectFailed (health_of s.forwarded.came) answer is)
  unread false is =
      back_of s is.after answer (ap (λ (f : Forwarded). f.text) is.forwarded_is) (answer_of is.after is.result answer is.becomes)

  go : (b : Bool) → EndsIf b s now (streamed.Whole answer) → IsBack s answer
  go true is = absurd (cc)
  go false is = unread s.forwarded.state.is_unread is
back_by breaks s now answer is = go (may_repeat s.forwarded) is.0 where
  go : (b : Bool) → streamed.Whole answer ≡ cond b (streamed.Again (again s.forwarded now)) (broken_by s fault.ConnectFailed)
      → IsBack s answer
  go true is = absurd (cc)
  go false is = absurd (not_broken (is_begun s.stream) fault.ConnectFailed (health_of s.forwarded.came) answer is)
back_by (dial_fails why) s now answer is = absurd is
back_by passes s now answer is = go (is_late s now) is where
  go : (b : Bool)
      → streamed.Whole answer
      ≡ cond b (broken (is_begun s.stream) fault.ResponseTimeout (late_health s.forwarded now)) (streamed.GoesOn s)
      → IsBack s answer
  go true is = absurd (not_broken (is_begun s.stream) fault.ResponseTimeout (late_health s.forwarded now) answer is)
  go false is = absurd (cc)
back_by (given_up why) s now answer is =
    absurd (not_broken (is_begun s.stream) (of_giving_up why) (health_of s.forwarded.came) answer is)

back_taken : (s : Streamed) (count now : ℕ) (answer : StreamedAnswer) → TakesStreamed s count now (streamed.Whole answer)
    → IsBack s answer
back_taken s count now answer is =
    back_of s is.after answer
    (ap (λ (f : Forwarded). f.text) is.forwarded_is
    ∙ renewed_text (not (is_awaited s) && is_awaited (record s { stream = is.after.stream })) s.forwarded now)
    (answer_of is.after is.result answer is.becomes)

-- THE CALLS

abbrev back_told : EndpointStep → Bool
back_told steps.NotThere = false
back_told steps.GoesOn = false
back_told steps.DialsAgain = false
back_told (steps.Answered ending) = ending.goes_back

no_back : (ending : Ending) → ending.goes_back ≡ true → ending.goes_back ≡ false → ⊥
no_back ending one other = cc

-- a connection goes back only with a response that is whole
told_back : (request : Request) (next : StreamedStep) (now : ℕ) (client : Client) (ending : Ending) (telling : Telling) (new : Sides)
    (P : Type 0) → ((answer : StreamedAnswer) → next ≡ streamed.Whole answer → answer.goes_back ≡ true → P)
    → ending.goes_back ≡ true → FollowsStreamed request next now client (steps.Answered ending) telling new → P
told_back request (streamed.GoesOn s) now client ending telling new P whole back is = let wrong = is.0 in absurd (cc)
told_back request (streamed.Again d) now client ending telling new P whole back is = let wrong = is.0 in absurd (cc)
told_back request (streamed.Whole answer) now client ending telling new P whole back is =
    whole answer refl (sym (ap back_told is.1.told_is) ∙ back)
told_back request (streamed.Refused why told_of) now client ending telling new P whole back is =
    absurd (no_back ending back (ap back_told is.2.0))
told_back request (streamed.Cut why told_of) now client ending telling new P whole back is =
    go (is_passing_on client.stage) is where
      go : (b : Bool) → CutsIf b request why told_of now client (steps.Answered ending) telling new → P
      go true is = absurd (no_back ending back (ap back_told is.0))
      go false is = absurd (no_back ending back (ap back_told is.2.0))

whole_sent : (old : Sides) (request : Request) (s : Streamed) → old.endpoint ≡ side.Streaming request s
    → IsForwarded request s.forwarded → s.forwarded.text.rest ≡ [] → WasStreamedWhole old
whole_sent old request s at_is sent none = record {
  request = request;
  s = s;
  is_there = at_is;
  text_is = sym (append-nil s.forwarded.text.sent) ∙ ap (λ rest. s.forwarded.text.sent ++ rest) (sym none) ∙ sent.text_is;
}

pub stream_goes_back_whole : (old new : Sides) (event : EndpointEvent) (now : ℕ) (ending : Ending) (telling : Telling)
    → StreamGoesBackWhole old event now ending telling new
stream_goes_back_whole old new event now ending telling sound is back = go old.endpoint refl sound is where
  go : (e : EndpointSide) → old.endpoint ≡ e → IsSound old.client e
      → AtStreamed (StepsBy event now) e now old.client (steps.Answered ending) telling new → WasStreamedWhole old
  go side.NoRequest at_is sound is = absurd is
  go (side.Entered request) at_is sound is = absurd is
  go (side.Dialing request d) at_is sound is = absurd is
  go (side.Forwarding request f) at_is sound is = absurd is
  go (side.Streaming request s) at_is sound is =
      told_back request is.0 now old.client ending telling new (WasStreamedWhole old)
      (λ answer whole goes. whole_sent old request s at_is sound.1
      (back_by event s now answer (subst (StepsBy event now s) whole is.1) goes)) back is.2

pub taken_goes_back_whole : (old new : Sides) (bytes : List ℕ) (now : ℕ) (ending : Ending) (telling : Telling)
    → TakenGoesBackWhole old bytes now ending telling new
taken_goes_back_whole old new bytes now ending telling sound is back = go old.endpoint refl sound is.0 is.2 where
  go : (e : EndpointSide) → old.endpoint ≡ e → IsSound old.client e → true ≡ (is_streaming e && is_passing_on old.client.stage)
      → ClientTakes e (length bytes) now old.client (steps.Answered ending) telling new → WasStreamedWhole old
  go side.NoRequest at_is sound here is = absurd (cc)
  go (side.Entered request) at_is sound here is = absurd (cc)
  go (side.Dialing request d) at_is sound here is = absurd (cc)
  go (side.Forwarding request f) at_is sound here is = absurd (cc)
  go (side.Streaming request s) at_is sound here is =
      let taken = subst (λ b. ClientTakesOf b request s (length bytes) now old.client (steps.Answered ending) telling new) (sym here) is in
      told_back request taken.0 now (passed_at old.client.stage (length bytes) true now old.client) ending telling new
      (WasStreamedWhole old)
      (λ answer whole goes. whole_sent old request s at_is sound.1
      (back_taken s (length bytes) now answer (subst (TakesStreamed s (length bytes) now) whole taken.1) goes)) back taken.2

-- AN ANSWER, AND ANOTHER DIAL

answered_end : (request : Request) (next : StreamedStep) (now : ℕ) (client : Client) (ending : Ending) (telling : Telling)
    (new : Sides) → FollowsStreamed request next now client (steps.Answered ending) telling new → new.endpoint ≡ side.NoRequest
answered_end request (streamed.GoesOn s) now client ending telling new is = let wrong = is.0 in absurd (cc)
answered_end request (streamed.Again d) now client ending telling new is = let wrong = is.0 in absurd (cc)
answered_end request (streamed.Whole answer) now client ending telling new is = is.0
answered_end request (streamed.Refused why told_of) now client ending telling new is = is.2.1
answered_end request (streamed.Cut why told_of) now client ending telling new is = go (is_passing_on client.stage) is where
  go : (b : Bool) → CutsIf b request why told_of now client (steps.Answered ending) telling new → new.endpoint ≡ side.NoRequest
  go true is = ap (λ (n : Sides). n.endpoint) is.2
  go false is = is.2.1

pub stream_loses_its_connection : (old new : Sides) (event : EndpointEvent) (now : ℕ) (ending : Ending) (telling : Telling)
    → StreamLosesItsConnection old event now ending telling new
stream_loses_its_connection old new event now ending telling is = go old.endpoint is where
  go : (e : EndpointSide) → AtStreamed (StepsBy event now) e now old.client (steps.Answered ending) telling new
      → new.endpoint ≡ side.NoRequest
  go side.NoRequest is = absurd is
  go (side.Entered request) is = absurd is
  go (side.Dialing request d) is = absurd is
  go (side.Forwarding request f) is = absurd is
  go (side.Streaming request s) is = answered_end request is.0 now old.client ending telling new is.2

pub taken_loses_its_connection : (old new : Sides) (passed : Bool) (bytes : List ℕ) (now : ℕ) (ending : Ending) (telling : Telling)
    → TakenLosesItsConnection old passed bytes now ending telling new
taken_loses_its_connection old new passed bytes now ending telling is = go old.endpoint is.2 where
  go : (e : EndpointSide) → ClientTakes e (length bytes) now old.client (steps.Answered ending) telling new
      → new.endpoint ≡ side.NoRequest
  go side.NoRequest is = absurd (cc)
  go (side.Entered request) is = absurd (cc)
  go (side.Dialing request d) is = absurd (cc)
  go (side.Forwarding request f) is = absurd (cc)
  go (side.Streaming request s) is = by (is_passing_on old.client.stage) is where
    by : (b : Bool) → ClientTakesOf b request s (length bytes) now old.client (steps.Answered ending) telling new
        → new.endpoint ≡ side.NoRequest
    by true is =
        answered_end request is.0 now (passed_at old.client.stage (length bytes) true now old.client) ending telling new is.2
    by false is = absurd (cc)

again_end : (old : Sides) (request : Request) (s : Streamed) (next : StreamedStep) (now : ℕ) (client : Client) (telling : Telling)
    (new : Sides) → old.endpoint ≡ side.Streaming request s
    → OnStep (λ (t : Streamed). ⊤) (λ (d : Dialing). (may_repeat s.forwarded ≡ true) × (d ≡ again s.forwarded now)) next
    → FollowsStreamed request next now client steps.DialsAgain telling new → StreamRepeatsByRule old now new
again_end old request s (streamed.GoesOn t) now client telling new at_is on is = let wrong = is.0 in absurd (cc)
again_end old request s (streamed.Again d) now client telling new at_is on is = record {
  request = request;
  s = s;
  is_there = at_is;
  rule = on.0;
  dials = ap (λ (n : Sides). n.endpoint) is.2 ∙ ap (side.Dialing request) on.1;
}
again_end old request s (streamed.Whole answer) now client telling new at_is on is = let wrong = is.1.told_is in absurd (cc)
again_end old request s (streamed.Refused why told_of) now client telling new at_is on is = let wrong = is.2.0 in absurd (cc)
again_end old request s (streamed.Cut why told_of) now client telling new at_is on is = go (is_passing_on client.stage) is where
  go : (b : Bool) → CutsIf b request why told_of now client steps.DialsAgain telling new → StreamRepeatsByRule old now new
  go true is = let wrong = is.0 in absurd (cc)
  go false is = let wrong = is.2.0 in absurd (cc)

pub stream_repeats_by_rule : (old new : Sides) (event : EndpointEvent) (now : ℕ) (telling : Telling)
    → StreamRepeatsOnlyByRule old event now telling new
stream_repeats_by_rule old new event now telling is = go old.endpoint refl is where
  go : (e : EndpointSide) → old.endpoint ≡ e → AtStreamed (StepsBy event now) e now old.client steps.DialsAgain telling new
      → StreamRepeatsByRule old now new
  go side.NoRequest at_is is = absurd is
  go (side.Entered request) at_is is = absurd is
  go (side.Dialing request d) at_is is = absurd is
  go (side.Forwarding request f) at_is is = absurd is
  go (side.Streaming request s) at_is is =
      again_end old request s is.0 now old.client telling new at_is
      (steps_on (λ (t : Streamed). ⊤) (λ (d : Dialing). (may_repeat s.forwarded ≡ true) × (d ≡ again s.forwarded now)) event s now is.0 is.1
      (λ t same. tt) (λ may once. (may, refl))) is.2
