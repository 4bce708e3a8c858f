-- How often a request is sent again by what happens at its endpoint.
use Rattle.std.proofs.Common.{◌≡◌, ◌∙◌, ℕ, ◌+◌, ◌≤◌, Bool, true, false, cond, not, List, ◌++◌, refl, sym, ap, arith, nat_le, nat_lt, Option, IsFalse}
use Rattle.bg_http.specs.Codings.{is_empty}
use Rattle.bg_http.specs.declared.request.Request.{Request}
use Rattle.bg_client_side.specs.Clients.{Client}
use Rattle.bg_endpoint_side.specs.Dialing.{Dialing, Forwarded}
use Rattle.bg_endpoint_side.specs.Forwarding.{Ends, Receives, again, failed, is_again, late_health, looked, may_repeat, renew_if, with_bytes, wrote}
use Rattle.bg_endpoint_side.specs.Outcomes.{health_of, of_giving_up, refused}
use Rattle.bg_endpoint_side.specs.OutgoingTexts.{with_written}
use Rattle.bg_endpoint_side.specs.declared.forwarded_request.Step.{Step}
use Rattle.bg_endpoint_side.specs.declared.forwarded_request.Step.TheVariants as step
use Rattle.bg_endpoint_side.specs.declared.outcome.DialFault.TheVariants as dial
use Rattle.bg_endpoint_side.specs.declared.outcome.ForwardFault.TheVariants as fault
use Rattle.bg_endpoint_side.specs.declared.outcome.Health.TheVariants as health
use Rattle.bg_endpoint_side.specs.declared.outcome.Outcome.{Outcome}
use Rattle.bg_both_sides.specs.Answers.{Reply}
use Rattle.bg_both_sides.specs.EndpointEvents.{Follows, IsOnce, LooksDialing, dial_failed}
use Rattle.bg_both_sides.specs.Runs.{EndpointEvent, Happens, breaks, comes, dial_fails, dials_again, ends, given_up, one_if, passes}
use Rattle.bg_both_sides.specs.Sides.{Sides}
use Rattle.bg_both_sides.specs.declared.endpoint_side.EndpointSide.{EndpointSide}
use Rattle.bg_both_sides.specs.declared.endpoint_side.EndpointSide.TheVariants as side
use Rattle.bg_both_sides.specs.declared.endpoint_step.EndpointStep.{EndpointStep}
use Rattle.bg_both_sides.specs.declared.endpoint_step.EndpointStep.TheVariants as steps

-- how often the request may still be sent again
abbrev pub left : EndpointSide → ℕ
left side.NoRequest = 0
left (side.Entered request) = 1
left (side.Dialing request d) = one_if (not d.is_again)
left (side.Forwarding request f) = one_if (not f.state.is_again)
left (side.Streaming request s) = one_if (not s.forwarded.state.is_again)

pub few : (e : EndpointSide) → left e ≤ 1
few side.NoRequest = omega arith
few (side.Entered request) = omega arith
few (side.Dialing request d) = go d.is_again where
  go : (b : Bool) → one_if (not b) ≤ 1
  go true = omega arith
  go false = omega arith
few (side.Forwarding request f) = go f.state.is_again where
  go : (b : Bool) → one_if (not b) ≤ 1
  go true = omega arith
  go false = omega arith
few (side.Streaming request s) = go s.forwarded.state.is_again where
  go : (b : Bool) → one_if (not b) ≤ 1
  go true = omega arith
  go false = omega arith

pub same_left : (old new : EndpointSide) → new ≡ old → 0 + left new ≤ left old
same_left old new is = let lefts = ap left is in omega (arith, lefts)

-- a step by which a request may be sent again, if it was not
follows_left : (request : Request) (next : Step) (now : ℕ) (client : Client) (told : EndpointStep) (reply : Option Reply)
    (new : Sides) (before : ℕ) → ((f : Forwarded) → next ≡ step.GoesOn f → left (side.Forwarding request f) ≤ before)
    → ((d : Dialing) → next ≡ step.Again d → (d.is_again ≡ true) × (before ≡ 1))
    → Follows request next now client told reply new → one_if (dials_again told) + left new.endpoint ≤ before
follows_left request (step.GoesOn f) now client told reply new before on again is =
    let none = ap (λ t. one_if (dials_again t)) is.0 in
    let lefts = ap (λ (n : Sides). left n.endpoint) is.2 in
    let few = on f refl in
    omega (arith, none, lefts, few)
follows_left request (step.Again d) now client told reply new before on again is =
    let one = ap (λ t. one_if (dials_again t)) is.0 in
    let lefts = ap (λ (n : Sides). left n.endpoint) is.2 in
    let rule = again d refl in
    let marked = ap (λ b. one_if (not b)) rule.0 in
    let most = rule.1 in
    omega (arith, one, lefts, marked, most)
follows_left request (step.Over outcome) now client told reply new before on again is =
    let none = ap (λ t. one_if (dials_again t)) is.0 in
    let lefts = ap left is.1 in
    omega (arith, none, lefts)

stays_left : (client : Client) (endpoint : EndpointSide) (told : EndpointStep) (new : Sides) → dials_again told ≡ false
    → new ≡ record { client = client; endpoint = endpoint } → one_if (dials_again told) + left new.endpoint ≤ left endpoint
stays_left client endpoint told new none is =
    let lefts = ap (λ (n : Sides). left n.endpoint) is in
    let nothing = ap one_if none in
    omega (arith, lefts, nothing)

pub absent_left : (client : Client) (endpoint : EndpointSide) (told : EndpointStep) (new : Sides) → told ≡ steps.NotThere
    → new ≡ record { client = client; endpoint = endpoint } → one_if (dials_again told) + left new.endpoint ≤ left endpoint
absent_left client endpoint told new none is = stays_left client endpoint told new (ap dials_again none) is

pub over_left : (request : Request) (outcome : Outcome) (now : ℕ) (client : Client) (told : EndpointStep) (reply : Option Reply)
    (new : Sides) (before : ℕ) → Follows request (step.Over outcome) now client told reply new
    → one_if (dials_again told) + left new.endpoint ≤ before
over_left request outcome now client told reply new before is =
    follows_left request (step.Over outcome) now client told reply new before (λ f same. absurd (cc)) (λ d same. absurd (cc)) is

pub not_again : (b : Bool) → (b ≡ true → ⊥) → one_if (not b) ≡ 1
not_again true none = absurd (none refl)
not_again false none = refl

-- a request that is sent again once, by a step that marks it
once_left : (f : Forwarded) (next : Step) → IsOnce f next → (d : Dialing) → next ≡ step.Again d
    → one_if (not f.state.is_again) ≡ 1
once_left f next once d is = not_again f.state.is_again (λ marked. no (once marked)) where
  no : IsFalse (is_again next) → ⊥
  no none = let same = ap is_again is in cc

pub marked_ends : (f : Forwarded) (now : ℕ) (next : Step) → Ends f now next → (d : Dialing) → next ≡ step.Again d
    → d.is_again ≡ true
marked_ends f now (step.GoesOn next) is d same = absurd is
marked_ends f now (step.Again next) is d same = go same where
  go : step.Again next ≡ step.Again d → d.is_again ≡ true
  go same = let one : next ≡ d = cc in ap (λ (x : Dialing). x.is_again) (sym one) ∙ ap (λ (x : Dialing). x.is_again) is.1
marked_ends f now (step.Over outcome) is d same = absurd (cc)

pub marked_fails : (f : Forwarded) (now : ℕ) (d : Dialing) → failed f now ≡ step.Again d → d.is_again ≡ true
marked_fails f now d is = go (may_repeat f) is where
  go : (b : Bool)
      → cond b (step.Again (again f now)) (step.Over (refused fault.ConnectFailed (health_of f.came))) ≡ step.Again d
      → d.is_again ≡ true
  go true is = let one : again f now ≡ d = cc in ap (λ (x : Dialing). x.is_again) (sym one)
  go false is = absurd (cc)

pub renewed_left : (b : Bool) (f : Forwarded) (now : ℕ) → (renew_if b f now).state.is_again ≡ f.state.is_again
renewed_left true f now = refl
renewed_left false f now = refl

pub came_left : (f : Forwarded) (bytes : List ℕ) (now : ℕ) → (with_bytes f bytes now).state.is_again ≡ f.state.is_again
came_left f bytes now = renewed_left (not (is_empty bytes)) (record f { came = f.came ++ bytes }) now

pub wrote_left : (f : Forwarded) (count now : ℕ) → (wrote f count now).state.is_again ≡ f.state.is_again
wrote_left f count now = renewed_left (nat_lt 0 count) (record f { text = with_written f.text count }) now

-- a request that goes on is marked as before
on_left : (f g : Forwarded) (request : Request) → g.state.is_again ≡ f.state.is_again
    → left (side.Forwarding request g) ≤ left (side.Forwarding request f)
on_left f g request same = let lefts = ap (λ b. one_if (not b)) same in omega (arith, lefts)

receives_left : (f : Forwarded) (bytes : List ℕ) (now : ℕ) (request : Request) (next : Step) → Receives f bytes now next
    → (g : Forwarded) → next ≡ step.GoesOn g → left (side.Forwarding request g) ≤ left (side.Forwarding request f)
receives_left f bytes now request (step.GoesOn next) is g same =
    let one : next ≡ g = cc in
    on_left f g request (ap (λ (h : Forwarded). h.state.is_again) (sym one ∙ is.0) ∙ came_left f bytes now)
receives_left f bytes now request (step.Again next) is g same = absurd is
receives_left f bytes now request (step.Over outcome) is g same = absurd (cc)

pub receives_again : (f : Forwarded) (bytes : List ℕ) (now : ℕ) (next : Step) → Receives f bytes now next → (d : Dialing)
    → next ≡ step.Again d → (d.is_again ≡ true) × (one_if (not f.state.is_again) ≡ 1)
receives_again f bytes now (step.GoesOn next) is d same = absurd (cc)
receives_again f bytes now (step.Again next) is d same = absurd is
receives_again f bytes now (step.Over outcome) is d same = absurd (cc)

ends_left : (f : Forwarded) (now : ℕ) (request : Request) (next : Step) → Ends f now next → (g : Forwarded)
    → next ≡ step.GoesOn g → left (side.Forwarding request g) ≤ left (side.Forwarding request f)
ends_left f now request (step.GoesOn next) is g same = absurd is
ends_left f now request (step.Again next) is g same = absurd (cc)
ends_left f now request (step.Over outcome) is g same = absurd (cc)

fails_left : (f : Forwarded) (now : ℕ) (request : Request) (g : Forwarded) → failed f now ≡ step.GoesOn g
    → left (side.Forwarding request g) ≤ left (side.Forwarding request f)
fails_left f now request g is = go (may_repeat f) is where
  go : (b : Bool)
      → cond b (step.Again (again f now)) (step.Over (refused fault.ConnectFailed (health_of f.came))) ≡ step.GoesOn g
      → left (side.Forwarding request g) ≤ left (side.Forwarding request f)
  go true is = absurd (cc)
  go false is = absurd (cc)

looks_left : (f : Forwarded) (now : ℕ) (request : Request) (g : Forwarded) → looked f now ≡ step.GoesOn g
    → left (side.Forwarding request g) ≤ left (side.Forwarding request f)
looks_left f now request g is = go (nat_le f.state.deadlines.until now) is where
  go : (b : Bool) → cond b (step.Over (refused fault.ResponseTimeout (late_health f now))) (step.GoesOn f) ≡ step.GoesOn g
      → left (side.Forwarding request g) ≤ left (side.Forwarding request f)
  go true is = absurd (cc)
  go false is =
      let one : f ≡ g = cc in
      on_left f g request (ap (λ (h : Forwarded). h.state.is_again) (sym one))

pub looks_again : (f : Forwarded) (now : ℕ) (d : Dialing) → looked f now ≡ step.Again d
    → (d.is_again ≡ true) × (one_if (not f.state.is_again) ≡ 1)
looks_again f now d is = go (nat_le f.state.deadlines.until now) is where
  go : (b : Bool) → cond b (step.Over (refused fault.ResponseTimeout (late_health f now))) (step.GoesOn f) ≡ step.Again d
      → (d.is_again ≡ true) × (one_if (not f.state.is_again) ≡ 1)
  go true is = absurd (cc)
  go false is = absurd (cc)

-- an event at the endpoint
pub happens_left : (event : EndpointEvent) (old : Sides) (e : EndpointSide) (now : ℕ) (told : EndpointStep)
    (reply : Option Reply) (new : Sides) → Happens event (record old { endpoint = e }) now told reply new
    → one_if (dials_again told) + left new.endpoint ≤ left e
happens_left (comes bytes) old side.NoRequest now told reply new is = absent_left old.client side.NoRequest told new is.0 is.2
happens_left (comes bytes) old (side.Entered request) now told reply new is =
    absent_left old.client (side.Entered request) told new is.0 is.2
happens_left (comes bytes) old (side.Dialing request d) now told reply new is =
    absent_left old.client (side.Dialing request d) told new is.0 is.2
happens_left (comes bytes) old (side.Forwarding request f) now told reply new is =
    follows_left request is.0 now old.client told reply new (left (side.Forwarding request f))
    (receives_left f bytes now request is.0 is.1) (receives_again f bytes now is.0 is.1) is.2
happens_left (comes bytes) old (side.Streaming request s) now told reply new is =
    absurd is
happens_left ends old side.NoRequest now told reply new is = absent_left old.client side.NoRequest told new is.0 is.2
happens_left ends old (side.Entered request) now told reply new is =
    absent_left old.client (side.Entered request) told new is.0 is.2
happens_left ends old (side.Dialing request d) now told reply new is =
    absent_left old.client (side.Dialing request d) told new is.0 is.2
happens_left ends old (side.Forwarding request f) now told reply new is =
    follows_left request is.0 now old.client told reply new (left (side.Forwarding request f))
    (ends_left f now request is.0 is.1.0)
    (λ d same. (marked_ends f now is.0 is.1.0 d same, once_left f is.0 is.1.1 d same)) is.2
happens_left ends old (side.Streaming request s) now told reply new is =
    absurd is
happens_left breaks old side.NoRequest now told reply new is = absent_left old.client side.NoRequest told new is.0 is.2
happens_left breaks old (side.Entered request) now told reply new is =
    absent_left old.client (side.Entered request) told new is.0 is.2
happens_left breaks old (side.Dialing request d) now told reply new is =
    absent_left old.client (side.Dialing request d) told new is.0 is.2
happens_left breaks old (side.Forwarding request f) now told reply new is =
    follows_left request is.0 now old.client told reply new (left (side.Forwarding request f))
    (λ g same. fails_left f now request g (sym is.1.0 ∙ same))
    (λ d same. (marked_fails f now d (sym is.1.0 ∙ same), once_left f is.0 is.1.1 d same)) is.2
happens_left breaks old (side.Streaming request s) now told reply new is =
    absurd is
happens_left (dial_fails why) old side.NoRequest now told reply new is =
    absent_left old.client side.NoRequest told new is.0 is.2
happens_left (dial_fails why) old (side.Entered request) now told reply new is =
    absent_left old.client (side.Entered request) told new is.0 is.2
happens_left (dial_fails why) old (side.Dialing request d) now told reply new is =
    over_left request (dial_failed why) now old.client told reply new (left (side.Dialing request d)) is
happens_left (dial_fails why) old (side.Forwarding request f) now told reply new is =
    absent_left old.client (side.Forwarding request f) told new is.0 is.2
happens_left (dial_fails why) old (side.Streaming request s) now told reply new is =
    absent_left old.client (side.Streaming request s) told new is.0 is.2
happens_left passes old side.NoRequest now told reply new is = absent_left old.client side.NoRequest told new is.0 is.2
happens_left passes old (side.Entered request) now told reply new is =
    absent_left old.client (side.Entered request) told new is.0 is.2
happens_left passes old (side.Dialing request d) now told reply new is = go (nat_le d.deadlines.until now) is where
  go : (b : Bool) → LooksDialing b request d now old.client told reply new
      → one_if (dials_again told) + left new.endpoint ≤ left (side.Dialing request d)
  go true is = over_left request (dial_failed dial.TimedOut) now old.client told reply new (left (side.Dialing request d)) is
  go false is = stays_left old.client (side.Dialing request d) told new (ap dials_again is.0) is.2
happens_left passes old (side.Forwarding request f) now told reply new is =
    follows_left request (looked f now) now old.client told reply new (left (side.Forwarding request f))
    (looks_left f now request) (looks_again f now) is
happens_left passes old (side.Streaming request s) now told reply new is =
    absurd is
happens_left (given_up why) old side.NoRequest now told reply new is =
    absent_left old.client side.NoRequest told new is.0 is.2
happens_left (given_up why) old (side.Entered request) now told reply new is =
    absent_left old.client (side.Entered request) told new is.0 is.2
happens_left (given_up why) old (side.Dialing request d) now told reply new is =
    over_left request (refused (of_giving_up why) health.Unknown) now old.client told reply new
    (left (side.Dialing request d)) is
happens_left (given_up why) old (side.Forwarding request f) now told reply new is =
    over_left request (refused (of_giving_up why) (health_of f.came)) now old.client told reply new
    (left (side.Forwarding request f)) is
happens_left (given_up why) old (side.Streaming request s) now told reply new is =
    absurd is
