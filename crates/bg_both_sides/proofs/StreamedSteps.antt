-- What a call makes of the two sides while a response is passed on.
use Rattle.std.proofs.Common.{◌≡◌, ℕ, Bool, true, false, ◌&&◌, List, ◌++◌, length, refl, sym, ap, subst, Option, Some, None}
use Rattle.bg_http.specs.declared.request.Request.{Request}
use Rattle.std.specs.Prelude.{⊤}
use Rattle.bg_http.specs.declared.persistence.Persistence.{Persistence}
use Rattle.bg_client_side.specs.Clients.{Client, begun_passing_on, passed_at}
use Rattle.bg_client_side.specs.Runs.{Runs}
use Rattle.bg_client_side.specs.Stages.{is_inside, is_passing_on}
use Rattle.bg_endpoint_side.specs.Dialing.{Dialing, Forwarded}
use Rattle.bg_endpoint_side.specs.Outcomes.{refused}
use Rattle.bg_endpoint_side.specs.declared.forwarded_request.Step.TheVariants as step
use Rattle.bg_endpoint_side.specs.Streaming.{Streamed}
use Rattle.bg_endpoint_side.specs.declared.streamed_step.StreamedStep.{StreamedStep}
use Rattle.bg_endpoint_side.specs.declared.streamed_step.StreamedStep.TheVariants as streamed
use Rattle.bg_both_sides.proofs.SoundLemmas.{again_is, came_is, renewed_is, stays_sound}
use Rattle.bg_both_sides.proofs.StreamedLemmas.{came_with, steps_on, takes_on}
use Rattle.bg_both_sides.proofs.StreamedRuns.{follows_end, follows_inside, has_request, passed_inside}
use Rattle.bg_both_sides.specs.Runs.{EndpointEvent, breaks, StepsBy, comes, dial_fails, ends, given_up, passes, taken_calls, telling_calls}
use Rattle.bg_both_sides.specs.Sides.{IsDialed, IsForwarded, IsSound, Sides, is_streaming}
use Rattle.bg_both_sides.specs.StreamedEvents.{AtStreamed, ClientTakes, ClientTakesOf, ConnectsStreamed, CutsIf, FollowsStreamed, Shows, Telling, begun_by, nothing, shown, shows}
use Rattle.bg_both_sides.specs.declared.stream_limits.StreamLimits.{StreamLimits}
use Rattle.bg_both_sides.specs.declared.endpoint_side.EndpointSide.{EndpointSide}
use Rattle.bg_both_sides.specs.declared.endpoint_side.EndpointSide.TheVariants as side
use Rattle.bg_both_sides.specs.declared.endpoint_step.EndpointStep.{EndpointStep}
use Rattle.bg_both_sides.proofs.AnswerRuns.{follows_runs, inside_awaits}

shows_runs : (s : Streamed) (now : ℕ) (client new : Client) (telling : Telling) → Shows s now client telling new
    → Runs client (telling_calls telling now) new
shows_runs s now client new telling is =
    subst (λ t. Runs client (telling_calls t now) new) (sym is.telling_is) (go is.head is.passes_is is.new_is) where
      go : (head : Option Persistence) → is.passes ≡ is_passing_on (begun_by head now client).stage
          → new ≡ shown head is.waits now client
          → Runs client (telling_calls (shows head is.begins is.waits is.passes) now) new
      go None here as_shown = (new, (here, as_shown), refl)
      go (Some persistence) here as_shown =
          (begun_passing_on persistence now client, (is.begins_is, refl), (new, (here, as_shown), refl))

streamed_runs : (request : Request) (next : StreamedStep) (now : ℕ) (client : Client) (told : EndpointStep)
    (telling : Telling) (new : Sides) → is_inside client.stage ≡ true
    → FollowsStreamed request next now client told telling new → Runs client (telling_calls telling now) new.client
streamed_runs request (streamed.GoesOn s) now client told telling new inside is =
    shows_runs s now client new.client telling is.2
streamed_runs request (streamed.Again d) now client told telling new inside is =
    subst (λ t. Runs client (telling_calls t now) new.client) (sym is.1) (sym (ap (λ (n : Sides). n.client) is.2))
streamed_runs request (streamed.Whole answer) now client told telling new inside is =
    subst (λ t. Runs client (telling_calls t now) new.client) (sym is.1.telling_is)
    (new.client, (sym (inside_awaits client inside).0, is.1.new_is), refl)
streamed_runs request (streamed.Refused why told_of) now client told telling new inside is =
    subst (λ t. Runs client (telling_calls t now) new.client) (sym is.1)
    (follows_runs request (step.Over (refused why told_of)) now client told (Some is.0) new inside is.2)
streamed_runs request (streamed.Cut why told_of) now client told telling new inside is =
    go (is_passing_on client.stage) refl is where
      go : (b : Bool) → is_passing_on client.stage ≡ b → CutsIf b request why told_of now client told telling new
          → Runs client (telling_calls telling now) new.client
      go true here is =
          subst (λ t. Runs client (telling_calls t now) new.client) (sym is.1)
          (new.client, (sym here, ap (λ (n : Sides). n.client) is.2), refl)
      go false here is =
          subst (λ t. Runs client (telling_calls t now) new.client) (sym is.1)
          (follows_runs request (step.Over (refused why told_of)) now client told (Some is.0) new inside is.2)

-- what is said of the request at an endpoint, beside its client
abbrev IsPart : EndpointSide → Type 0
IsPart side.NoRequest = ⊤
IsPart (side.Entered request) = ⊤
IsPart (side.Dialing request d) = IsDialed request d
IsPart (side.Forwarding request f) = IsForwarded request f
IsPart (side.Streaming request s) = IsForwarded request s.forwarded

joined : (c : Client) (e : EndpointSide) → is_inside c.stage ≡ has_request e → IsPart e → IsSound c e
joined c side.NoRequest inside part = inside
joined c (side.Entered request) inside part = inside
joined c (side.Dialing request d) inside part = (inside, part)
joined c (side.Forwarding request f) inside part = (inside, part)
joined c (side.Streaming request s) inside part = (inside, part)

came_part : (event : EndpointEvent) (request : Request) (f : Forwarded) (now : ℕ) → IsForwarded request f
    → IsForwarded request (came_with event now f)
came_part (comes bytes) request f now sent = came_is request f bytes now sent
came_part ends request f now sent = sent
came_part breaks request f now sent = sent
came_part (dial_fails why) request f now sent = sent
came_part passes request f now sent = sent
came_part (given_up why) request f now sent = sent

pub streams_step : (event : EndpointEvent) (e : EndpointSide) (now : ℕ) (client : Client) (told : EndpointStep) (telling : Telling)
    (new : Sides) → IsSound client e → AtStreamed (StepsBy event now) e now client told telling new
    → Runs client (telling_calls telling now) new.client × IsSound new.client new.endpoint
streams_step event side.NoRequest now client told telling new sound is = absurd is
streams_step event (side.Entered request) now client told telling new sound is = absurd is
streams_step event (side.Dialing request d) now client told telling new sound is = absurd is
streams_step event (side.Forwarding request f) now client told telling new sound is = absurd is
streams_step event (side.Streaming request s) now client told telling new sound is = (
  streamed_runs request is.0 now client told telling new sound.0 is.2,
  joined new.client new.endpoint (follows_inside request is.0 now client told telling new sound.0 is.2)
      (follows_end IsPart request is.0 now client told telling new
      (steps_on (λ (after : Streamed). IsForwarded request after.forwarded) (λ (d : Dialing). IsDialed request d) event s now is.0 is.1
      (λ after same. subst (IsForwarded request) (sym same) (came_part event request s.forwarded now sound.1))
      (λ may once. again_is request s.forwarded now sound.1)) tt is.2),
)

-- the client took nothing of a response that is passed on
none_taken : (endpoint : EndpointSide) (passed : Bool) (bytes : List ℕ) (now : ℕ) (client : Client) (telling : Telling) (new : Sides)
    → passed ≡ false → telling ≡ nothing → new ≡ record { client = client; endpoint = endpoint }
    → Runs client (taken_calls passed bytes now ++ telling_calls telling now) new.client
none_taken endpoint passed bytes now client telling new none telling_is is =
    subst (λ b. Runs client (taken_calls b bytes now ++ telling_calls telling now) new.client) (sym none)
    (subst (λ t. Runs client (telling_calls t now) new.client) (sym telling_is) (sym (ap (λ (n : Sides). n.client) is)))

pub takes_runs : (e : EndpointSide) (passed : Bool) (bytes : List ℕ) (now : ℕ) (client : Client) (told : EndpointStep)
    (telling : Telling) (new : Sides) → passed ≡ (is_streaming e && is_passing_on client.stage) → IsSound client e
    → ClientTakes e (length bytes) now client told telling new
    → Runs client (taken_calls passed bytes now ++ telling_calls telling now) new.client
takes_runs side.NoRequest passed bytes now client told telling new here sound is =
    none_taken side.NoRequest passed bytes now client telling new here is.1 is.2
takes_runs (side.Entered request) passed bytes now client told telling new here sound is =
    none_taken (side.Entered request) passed bytes now client telling new here is.1 is.2
takes_runs (side.Dialing request d) passed bytes now client told telling new here sound is =
    none_taken (side.Dialing request d) passed bytes now client telling new here is.1 is.2
takes_runs (side.Forwarding request f) passed bytes now client told telling new here sound is =
    none_taken (side.Forwarding request f) passed bytes now client telling new here is.1 is.2
takes_runs (side.Streaming request s) passed bytes now client told telling new here sound is =
    go (is_passing_on client.stage) refl here is where
      mid : Client
      mid = passed_at client.stage (length bytes) true now client

      go : (b : Bool) → is_passing_on client.stage ≡ b → passed ≡ b
          → ClientTakesOf b request s (length bytes) now client told telling new
          → Runs client (taken_calls passed bytes now ++ telling_calls telling now) new.client
      go false none here is = none_taken (side.Streaming request s) passed bytes now client telling new here is.1 is.2
      go true passing here is =
          let inside = passed_inside client.stage (length bytes) true now client sound.0 in
          subst (λ p. Runs client (taken_calls p bytes now ++ telling_calls telling now) new.client) (sym here)
          (mid, (sym passing, refl), streamed_runs request is.0 now mid told telling new inside is.2)

pub takes_sound : (e : EndpointSide) (count now : ℕ) (client : Client) (told : EndpointStep) (telling : Telling) (new : Sides)
    → IsSound client e → ClientTakes e count now client told telling new → IsSound new.client new.endpoint
takes_sound side.NoRequest count now client told telling new sound is = stays_sound client side.NoRequest new sound is.2
takes_sound (side.Entered request) count now client told telling new sound is =
    stays_sound client (side.Entered request) new sound is.2
takes_sound (side.Dialing request d) count now client told telling new sound is =
    stays_sound client (side.Dialing request d) new sound is.2
takes_sound (side.Forwarding request f) count now client told telling new sound is =
    stays_sound client (side.Forwarding request f) new sound is.2
takes_sound (side.Streaming request s) count now client told telling new sound is = go (is_passing_on client.stage) is where
  go : (b : Bool) → ClientTakesOf b request s count now client told telling new → IsSound new.client new.endpoint
  go false is = stays_sound client (side.Streaming request s) new sound is.2
  go true is =
      let mid = passed_at client.stage count true now client in
      let inside = passed_inside client.stage count true now client sound.0 in
      joined new.client new.endpoint (follows_inside request is.0 now mid told telling new inside is.2)
      (follows_end IsPart request is.0 now mid told telling new
      (takes_on (λ (after : Streamed). IsForwarded request after.forwarded) (λ (d : Dialing). IsDialed request d) s count now is.0 is.1
      (λ after happened same. subst (IsForwarded request) (sym same) (renewed_is happened request s.forwarded now sound.1))) tt is.2)

pub connects_sound : (e : EndpointSide) (is_kept : Bool) (limits : StreamLimits) (now : ℕ) (goes_on taken : Bool) (client : Client)
    (new : EndpointSide) → IsSound client e → ConnectsStreamed is_kept limits now goes_on taken e new → IsSound client new
connects_sound side.NoRequest is_kept limits now goes_on true client new sound is = absurd is
connects_sound (side.Entered request) is_kept limits now goes_on true client new sound is = absurd is
connects_sound (side.Dialing request d) is_kept limits now goes_on true client new sound is =
    subst (IsSound client) (sym is.2.2) (
      sound.0,
      subst (IsForwarded request) (sym is.2.1.1.forwarded_is)
          (record { read_is = sound.1.read_is; text_is = sound.1.text_is; idempotent_is = sound.1.idempotent_is; asks_is = sound.1.asks_is }),
    )
connects_sound (side.Forwarding request f) is_kept limits now goes_on true client new sound is = absurd is
connects_sound (side.Streaming request s) is_kept limits now goes_on true client new sound is = absurd is
connects_sound e is_kept limits now goes_on false client new sound is = subst (IsSound client) (sym is) sound
