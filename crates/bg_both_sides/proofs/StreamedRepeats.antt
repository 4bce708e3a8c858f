-- How often a request whose response is passed on is sent again.
use Rattle.std.proofs.Common.{◌≡◌, ◌∙◌, ℕ, ◌+◌, ◌≤◌, Bool, true, false, not, refl, ap, arith, Some, IsFalse}
use Rattle.bg_http.specs.declared.request.Request.{Request}
use Rattle.bg_client_side.specs.Clients.{Client, passed_at}
use Rattle.bg_client_side.specs.Stages.{is_passing_on}
use Rattle.bg_endpoint_side.specs.Dialing.{Dialing, Forwarded}
use Rattle.bg_endpoint_side.specs.Outcomes.{refused}
use Rattle.bg_endpoint_side.specs.Streaming.{Streamed}
use Rattle.bg_endpoint_side.specs.declared.streamed_step.StreamedStep.{StreamedStep}
use Rattle.bg_endpoint_side.specs.declared.streamed_step.StreamedStep.TheVariants as streamed
use Rattle.bg_both_sides.proofs.StreamedLemmas.{OnStep, came_with, steps_on, takes_on}
use Rattle.bg_both_sides.specs.Runs.{EndpointEvent, StepsBy, breaks, comes, dial_fails, dials_again, ends, given_up, one_if, passes}
use Rattle.bg_both_sides.specs.Sides.{Sides}
use Rattle.bg_both_sides.specs.StreamedEvents.{AtStreamed, ClientTakes, ClientTakesOf, ConnectsStreamed, CutsIf, FollowsStreamed, Telling}
use Rattle.bg_both_sides.specs.declared.stream_limits.StreamLimits.{StreamLimits}
use Rattle.bg_both_sides.specs.declared.endpoint_side.EndpointSide.{EndpointSide}
use Rattle.bg_both_sides.specs.declared.endpoint_side.EndpointSide.TheVariants as side
use Rattle.bg_both_sides.specs.declared.endpoint_step.EndpointStep.{EndpointStep}
use Rattle.bg_both_sides.proofs.RepeatLemmas.{absent_left, came_left, left, not_again, over_left, renewed_left}

streamed_left : (request : Request) (next : StreamedStep) (now : ℕ) (client : Client) (told : EndpointStep) (telling : Telling)
    (new : Sides) (before : ℕ)
    → OnStep (λ (s : Streamed). one_if (not s.forwarded.state.is_again) ≤ before)
    (λ (d : Dialing). (d.is_again ≡ true) × (before ≡ 1)) next
    → FollowsStreamed request next now client told telling new → one_if (dials_again told) + left new.endpoint ≤ before
streamed_left request (streamed.GoesOn s) now client told telling new before on is =
    let none = ap (λ t. one_if (dials_again t)) is.0 in
    let lefts = ap left is.1 in
    omega (arith, none, lefts, on)
streamed_left request (streamed.Again d) now client told telling new before on is =
    let one = ap (λ t. one_if (dials_again t)) is.0 in
    let lefts = ap (λ (n : Sides). left n.endpoint) is.2 in
    let marked = ap (λ b. one_if (not b)) on.0 in
    let most = on.1 in
    omega (arith, one, lefts, marked, most)
streamed_left request (streamed.Whole answer) now client told telling new before on is =
    let none = ap (λ t. one_if (dials_again t)) is.1.told_is in
    let lefts = ap left is.0 in
    omega (arith, none, lefts)
streamed_left request (streamed.Refused why told_of) now client told telling new before on is =
    over_left request (refused why told_of) now client told (Some is.0) new before is.2
streamed_left request (streamed.Cut why told_of) now client told telling new before on is =
    go (is_passing_on client.stage) is where
      go : (b : Bool) → CutsIf b request why told_of now client told telling new
          → one_if (dials_again told) + left new.endpoint ≤ before
      go true is =
          let none = ap (λ t. one_if (dials_again t)) is.0 in
          let lefts = ap (λ (n : Sides). left n.endpoint) is.2 in
          omega (arith, none, lefts)
      go false is = over_left request (refused why told_of) now client told (Some is.0) new before is.2

came_again : (event : EndpointEvent) (f : Forwarded) (now : ℕ) → (came_with event now f).state.is_again ≡ f.state.is_again
came_again (comes bytes) f now = came_left f bytes now
came_again ends f now = refl
came_again breaks f now = refl
came_again (dial_fails why) f now = refl
came_again passes f now = refl
came_again (given_up why) f now = refl

same_again : (one other : Bool) → one ≡ other → one_if (not one) ≤ one_if (not other)
same_again one other same = let lefts = ap (λ b. one_if (not b)) same in omega (arith, lefts)

pub streams_left : (event : EndpointEvent) (e : EndpointSide) (now : ℕ) (client : Client) (told : EndpointStep) (telling : Telling)
    (new : Sides) → AtStreamed (StepsBy event now) e now client told telling new
    → one_if (dials_again told) + left new.endpoint ≤ left e
streams_left event side.NoRequest now client told telling new is = absurd is
streams_left event (side.Entered request) now client told telling new is = absurd is
streams_left event (side.Dialing request d) now client told telling new is = absurd is
streams_left event (side.Forwarding request f) now client told telling new is = absurd is
streams_left event (side.Streaming request s) now client told telling new is =
    streamed_left request is.0 now client told telling new before
    (steps_on (λ (t : Streamed). one_if (not t.forwarded.state.is_again) ≤ before) (λ (d : Dialing). (d.is_again ≡ true) × (before ≡ 1))
    event s now is.0 is.1
    (λ t same. same_again t.forwarded.state.is_again s.forwarded.state.is_again
    (ap (λ (f : Forwarded). f.state.is_again) same ∙ came_again event s.forwarded now))
    (λ may once. (refl, not_again s.forwarded.state.is_again (λ marked. no (once marked))))) is.2 where
      before : ℕ
      before = one_if (not s.forwarded.state.is_again)

      no : IsFalse true → ⊥
      no is = cc

pub takes_left : (e : EndpointSide) (count now : ℕ) (client : Client) (told : EndpointStep) (telling : Telling) (new : Sides)
    → ClientTakes e count now client told telling new → one_if (dials_again told) + left new.endpoint ≤ left e
takes_left side.NoRequest count now client told telling new is = absent_left client side.NoRequest told new is.0 is.2
takes_left (side.Entered request) count now client told telling new is =
    absent_left client (side.Entered request) told new is.0 is.2
takes_left (side.Dialing request d) count now client told telling new is =
    absent_left client (side.Dialing request d) told new is.0 is.2
takes_left (side.Forwarding request f) count now client told telling new is =
    absent_left client (side.Forwarding request f) told new is.0 is.2
takes_left (side.Streaming request s) count now client told telling new is =
    go (is_passing_on client.stage) is where
      before : ℕ
      before = one_if (not s.forwarded.state.is_again)

      go : (b : Bool) → ClientTakesOf b request s count now client told telling new
          → one_if (dials_again told) + left new.endpoint ≤ before
      go false is = absent_left client (side.Streaming request s) told new is.0 is.2
      go true is =
          streamed_left request is.0 now (passed_at client.stage count true now client) told telling new before
          (takes_on (λ (t : Streamed). one_if (not t.forwarded.state.is_again) ≤ before)
          (λ (d : Dialing). (d.is_again ≡ true) × (before ≡ 1)) s count now is.0 is.1
          (λ t happened same. same_again t.forwarded.state.is_again s.forwarded.state.is_again
          (ap (λ (f : Forwarded). f.state.is_again) same ∙ renewed_left happened s.forwarded now))) is.2

pub connects_left : (e : EndpointSide) (is_kept : Bool) (limits : StreamLimits) (now : ℕ) (goes_on taken : Bool) (new : EndpointSide)
    → ConnectsStreamed is_kept limits now goes_on taken e new → left new ≤ left e
connects_left side.NoRequest is_kept limits now goes_on true new is = absurd is
connects_left (side.Entered request) is_kept limits now goes_on true new is = absurd is
connects_left (side.Dialing request d) is_kept limits now goes_on true new is =
    let lefts = ap left is.2.2 in
    let same = ap (λ (f : Forwarded). one_if (not f.state.is_again)) is.2.1.1.forwarded_is in
    omega (arith, lefts, same)
connects_left (side.Forwarding request f) is_kept limits now goes_on true new is = absurd is
connects_left (side.Streaming request s) is_kept limits now goes_on true new is = absurd is
connects_left e is_kept limits now goes_on false new is = let lefts = ap left is in omega (arith, lefts)
