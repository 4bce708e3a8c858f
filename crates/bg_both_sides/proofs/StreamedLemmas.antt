-- What events make of a request whose response is passed on.
use Rattle.std.proofs.Common.{◌≡◌, ℕ, Bool, true, false, cond, not, ◌&&◌, refl, sym, subst, OnOk, Result, Ok, Err}
use Rattle.std.specs.Prelude.{⊤}
use Rattle.bg_streams.specs.ResponseRelays.{is_whole, passing_of}
use Rattle.bg_streams.specs.ResponseStreams.{is_begun, relay_of}
use Rattle.bg_streams.specs.declared.stream_fault.StreamFault.{StreamFault}
use Rattle.bg_streams.specs.declared.stream_fault.StreamFault.TheVariants as stream_fault
use Rattle.bg_endpoint_side.specs.Dialing.{Dialing, Forwarded}
use Rattle.bg_endpoint_side.specs.Forwarding.{again, late_health, may_repeat, renew_if, with_bytes}
use Rattle.bg_endpoint_side.specs.Outcomes.{health_of, of_giving_up}
use Rattle.bg_endpoint_side.specs.StreamedSteps.{Becomes, EndsIf, EndsUnread, GoesOnBy, TakesStreamed, broken, broken_by, faulty}
use Rattle.bg_endpoint_side.specs.Streaming.{Streamed, is_awaited, is_late}
use Rattle.bg_endpoint_side.specs.declared.outcome.ForwardFault.{ForwardFault}
use Rattle.bg_endpoint_side.specs.declared.outcome.ForwardFault.TheVariants as fault
use Rattle.bg_endpoint_side.specs.declared.outcome.Health.{Health}
use Rattle.bg_endpoint_side.specs.declared.streamed_step.StreamedStep.{StreamedStep}
use Rattle.bg_endpoint_side.specs.declared.streamed_step.StreamedStep.TheVariants as streamed
use Rattle.bg_both_sides.specs.Runs.{EndpointEvent, StepsBy, breaks, comes, dial_fails, ends, given_up, passes}
use Rattle.bg_both_sides.specs.StreamedEvents.{IsOnceStreamed}

-- this is so of a request that goes on, and that of one that is sent again
abbrev pub OnStep : (Streamed → Type 0) → (Dialing → Type 0) → StreamedStep → Type 0
OnStep On Again (streamed.GoesOn s) = On s
OnStep On Again (streamed.Again d) = Again d
OnStep On Again (streamed.Whole answer) = ⊤
OnStep On Again (streamed.Refused why told) = ⊤
OnStep On Again (streamed.Cut why told) = ⊤

pub broken_on : (On : Streamed → Type 0) (Again : Dialing → Type 0) (begun : Bool) (why : ForwardFault) (told : Health)
    → OnStep On Again (broken begun why told)
broken_on On Again true why told = tt
broken_on On Again false why told = tt

faulty_on : (On : Streamed → Type 0) (Again : Dialing → Type 0) (named : StreamFault) (told : Health)
    → OnStep On Again (faulty named told)
faulty_on On Again (stream_fault.Refused named) told = tt
faulty_on On Again (stream_fault.Cut named) told = tt

-- a response without a fault
pub becomes_ok : (On : Streamed → Type 0) (Again : Dialing → Type 0) (after : Streamed) (result : Result (Unit {0}) StreamFault)
    (next : StreamedStep) → Becomes after result next → OnOk result (On after) → OnStep On Again next
becomes_ok On Again after (Ok x) next is on = go (is_whole (passing_of (relay_of after.stream))) next is where
  go : (whole : Bool) (next : StreamedStep) → GoesOnBy whole after next → OnStep On Again next
  go false next is = subst (OnStep On Again) (sym is) on
  go true (streamed.GoesOn s) is = absurd is
  go true (streamed.Again d) is = absurd is
  go true (streamed.Whole answer) is = tt
  go true (streamed.Refused why told) is = tt
  go true (streamed.Cut why told) is = tt
becomes_ok On Again after (Err named) next is on =
    subst (OnStep On Again) (sym is) (faulty_on On Again named (health_of after.forwarded.came))

on_ok : {T E : Type 0} (result : Result T E) (P : Type 0) → P → OnOk result P
on_ok (Ok x) P h = h
on_ok (Err e) P h = tt

becomes_on : (On : Streamed → Type 0) (Again : Dialing → Type 0) (after : Streamed) (result : Result (Unit {0}) StreamFault)
    (next : StreamedStep) → Becomes after result next → On after → OnStep On Again next
becomes_on On Again after result next is on = becomes_ok On Again after result next is (on_ok result (On after) on)

-- what came with an event
abbrev pub came_with : EndpointEvent → ℕ → Forwarded → Forwarded
came_with (comes bytes) now f = with_bytes f bytes now
came_with ends now f = f
came_with breaks now f = f
came_with (dial_fails why) now f = f
came_with passes now f = f
came_with (given_up why) now f = f

-- an event, by which bytes come, or none
pub steps_on : (On : Streamed → Type 0) (Again : Dialing → Type 0) (event : EndpointEvent) (s : Streamed) (now : ℕ)
    (next : StreamedStep) → StepsBy event now s next
    → ((after : Streamed) → after.forwarded ≡ came_with event now s.forwarded → On after)
    → (may_repeat s.forwarded ≡ true → IsOnceStreamed s (streamed.Again (again s.forwarded now)) → Again (again s.forwarded now))
    → OnStep On Again next
steps_on On Again (comes bytes) s now next is on sent =
    becomes_on On Again is.after is.result next is.becomes (on is.after is.forwarded_is)
steps_on On Again ends s now next is on sent = go (may_repeat s.forwarded) refl is.0 where
  unread : (b : Bool) → EndsUnread b s next → OnStep On Again next
  unread true is = subst (OnStep On Again) (sym is) (broken_on On Again (is_begun s.stream) fault.ConnectFailed (health_of s.forwarded.came))
  unread false is = becomes_on On Again is.after is.result next is.becomes (on is.after is.forwarded_is)

  go : (b : Bool) → may_repeat s.forwarded ≡ b → EndsIf b s now next → OnStep On Again next
  go true may ended = subst (OnStep On Again) (sym ended) (sent may (subst (IsOnceStreamed s) ended is.1))
  go false may ended = unread s.forwarded.state.is_unread ended
steps_on On Again breaks s now next is on sent = subst (OnStep On Again) (sym is.0) (go (may_repeat s.forwarded) refl is.0) where
  go : (b : Bool) → may_repeat s.forwarded ≡ b
      → next ≡ cond b (streamed.Again (again s.forwarded now)) (broken_by s fault.ConnectFailed)
      → OnStep On Again (cond b (streamed.Again (again s.forwarded now)) (broken_by s fault.ConnectFailed))
  go true may failed = sent may (subst (IsOnceStreamed s) failed is.1)
  go false may failed = broken_on On Again (is_begun s.stream) fault.ConnectFailed (health_of s.forwarded.came)
steps_on On Again (dial_fails why) s now next is on sent = absurd is
steps_on On Again passes s now next is on sent = subst (OnStep On Again) (sym is) (go (is_late s now)) where
  go : (b : Bool)
      → OnStep On Again (cond b (broken (is_begun s.stream) fault.ResponseTimeout (late_health s.forwarded now)) (streamed.GoesOn s))
  go true = broken_on On Again (is_begun s.stream) fault.ResponseTimeout (late_health s.forwarded now)
  go false = on s refl
steps_on On Again (given_up why) s now next is on sent =
    subst (OnStep On Again) (sym is) (broken_on On Again (is_begun s.stream) (of_giving_up why) (health_of s.forwarded.came))

-- the client took bytes: that renews timeouts alone
pub takes_on : (On : Streamed → Type 0) (Again : Dialing → Type 0) (s : Streamed) (count now : ℕ) (next : StreamedStep)
    → TakesStreamed s count now next
    → ((after : Streamed) (happened : Bool) → after.forwarded ≡ renew_if happened s.forwarded now → On after)
    → OnStep On Again next
takes_on On Again s count now next is on =
    becomes_on On Again is.after is.result next is.becomes
    (on is.after (not (is_awaited s) && is_awaited (record s { stream = is.after.stream })) is.forwarded_is)
