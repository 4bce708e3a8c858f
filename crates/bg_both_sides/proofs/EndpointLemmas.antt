-- What the calls make of the connection to an endpoint.
use Rattle.std.proofs.Common.{◌≡◌, ◌∙◌, ℕ, Bool, true, false, cond, List, [], ◌++◌, refl, sym, ap, subst, append-nil, nat_le, Option, Some, Result, Ok, Err}
use Rattle.bg_http.specs.declared.request.Request.{Request}
use Rattle.bg_http.specs.declared.response.Response.{Response}
use Rattle.bg_client_side.specs.Clients.{Client}
use Rattle.bg_endpoint_side.specs.Dialing.{Dialing, Forwarded}
use Rattle.bg_endpoint_side.specs.Forwarding.{Ends, IsDecided, IsEnded, Receives, again, cut, failed, goes_back, late_health, looked, may_repeat, read, unread}
use Rattle.bg_endpoint_side.specs.Laws.{GoesBackDrained}
use Rattle.bg_endpoint_side.specs.Outcomes.{health_of, of_giving_up, refused}
use Rattle.bg_endpoint_side.specs.declared.forwarded_request.Step.{Step}
use Rattle.bg_endpoint_side.specs.declared.forwarded_request.Step.TheVariants as step
use Rattle.bg_endpoint_side.specs.declared.outcome.DialFault.TheVariants as dial
use Rattle.bg_endpoint_side.specs.declared.outcome.ForwardFault.{ForwardFault}
use Rattle.bg_endpoint_side.specs.declared.outcome.ForwardFault.TheVariants as fault
use Rattle.bg_endpoint_side.specs.declared.outcome.Health.TheVariants as health
use Rattle.bg_endpoint_side.specs.declared.outcome.Outcome.{Outcome}
use Rattle.bg_both_sides.specs.Answers.{IsAnswerTo, Reply}
use Rattle.bg_both_sides.specs.EndpointEvents.{AtForwarded, Follows, IsOnce, Looks, LooksDialing, dial_failed, given_in}
use Rattle.bg_both_sides.specs.Laws.{AnswersByItsResponse, GoesBackWhole, IsDecidedBy, LosesItsConnection, RepeatsByRule, RepeatsOnlyByRule, WasWhole}
use Rattle.bg_both_sides.specs.Runs.{EndpointEvent, Happens, breaks, comes, dial_fails, ends, given_up, passes}
use Rattle.bg_both_sides.specs.Sides.{IsForwarded, IsSound, Sides}
use Rattle.bg_both_sides.specs.declared.endpoint_side.EndpointSide.{EndpointSide}
use Rattle.bg_both_sides.specs.declared.endpoint_side.EndpointSide.TheVariants as side
use Rattle.bg_both_sides.specs.declared.endpoint_step.Ending.{Ending}
use Rattle.bg_both_sides.specs.declared.endpoint_step.EndpointStep.{EndpointStep}
use Rattle.bg_both_sides.specs.declared.endpoint_step.EndpointStep.TheVariants as steps

-- THE END OF A REQUEST

-- whether a connection goes back
abbrev back_of : EndpointStep → Bool
back_of steps.NotThere = false
back_of steps.GoesOn = false
back_of steps.DialsAgain = false
back_of (steps.Answered ending) = ending.goes_back

abbrev back_by : Step → Bool
back_by (step.GoesOn forwarded) = false
back_by (step.Again dialing) = false
back_by (step.Over outcome) = outcome.goes_back

follows_back : (request : Request) (next : Step) (now : ℕ) (client : Client) (told : EndpointStep) (reply : Option Reply)
    (new : Sides) → Follows request next now client told reply new → back_of told ≡ back_by next
follows_back request (step.GoesOn f) now client told reply new is = ap back_of is.0
follows_back request (step.Again d) now client told reply new is = ap back_of is.0
follows_back request (step.Over outcome) now client told reply new is = ap back_of is.0

-- the whole text was written
abbrev pub DrainedLaw : Type 0
DrainedLaw = (f : Forwarded) (came left : List ℕ) (response : Response) → GoesBackDrained f came left response

decided_sent : DrainedLaw → (f : Forwarded) (came : List ℕ) (outcome : Outcome) → IsDecided f came outcome
    → outcome.goes_back ≡ true → f.text.rest ≡ []
decided_sent law f came outcome is back = go outcome.answer (sym is.goes_back_is ∙ back) where
  go : (answer : Result Response ForwardFault) → goes_back f came is.left answer ≡ true → f.text.rest ≡ []
  go (Ok response) back = (law f came is.left response back).sent
  go (Err named) back = absurd (cc)

receives_sent : DrainedLaw → (f : Forwarded) (bytes : List ℕ) (now : ℕ) (next : Step) → Receives f bytes now next
    → back_by next ≡ true → f.text.rest ≡ []
receives_sent law f bytes now (step.GoesOn next) is back = absurd (cc)
receives_sent law f bytes now (step.Again next) is back = absurd is
receives_sent law f bytes now (step.Over outcome) is back = decided_sent law f (f.came ++ bytes) outcome is back

ended_back : (f : Forwarded) (outcome : Outcome) → IsEnded f outcome → outcome.goes_back ≡ false
ended_back f outcome (cut unread is) = ap (λ (o : Outcome). o.goes_back) is
ended_back f outcome (read unread given back told) = back

ends_back : (f : Forwarded) (now : ℕ) (next : Step) → Ends f now next → back_by next ≡ false
ends_back f now (step.GoesOn next) is = absurd is
ends_back f now (step.Again next) is = refl
ends_back f now (step.Over outcome) is = ended_back f outcome is.1

fails_back : (f : Forwarded) (now : ℕ) → back_by (failed f now) ≡ false
fails_back f now = go (may_repeat f) where
  go : (b : Bool) → back_by (cond b (step.Again (again f now)) (step.Over (refused fault.ConnectFailed (health_of f.came)))) ≡ false
  go true = refl
  go false = refl

looks_back : (f : Forwarded) (now : ℕ) → back_by (looked f now) ≡ false
looks_back f now = go (nat_le f.state.deadlines.until now) where
  go : (b : Bool) → back_by (cond b (step.Over (refused fault.ResponseTimeout (late_health f now))) (step.GoesOn f)) ≡ false
  go true = refl
  go false = refl

-- the text that was written of a request that has nothing left
whole_sent : (old : Sides) (request : Request) (f : Forwarded) → old.endpoint ≡ side.Forwarding request f
    → IsForwarded request f → f.text.rest ≡ [] → WasWhole old
whole_sent old request f at_is sent none = record {
  request = request;
  forwarded = f;
  is_there = at_is;
  text_is = sym (append-nil f.text.sent) ∙ ap (λ rest. f.text.sent ++ rest) (sym none) ∙ sent.text_is;
}

never : (b : Bool) → b ≡ true → b ≡ false → (old : Sides) → WasWhole old
never b one other old = absurd (cc)

-- an event after which a connection goes back
pub goes_back_whole : DrainedLaw → (event : EndpointEvent) (old new : Sides) (now : ℕ) (ending : Ending)
    (reply : Option Reply) → GoesBackWhole old event now ending reply new
goes_back_whole law (comes bytes) old new now ending reply sound is back = go old.endpoint refl sound is where
  go : (e : EndpointSide) → old.endpoint ≡ e → IsSound old.client e
      → AtForwarded (λ f next. Receives f bytes now next) e now old.client (steps.Answered ending) reply new → WasWhole old
  go side.NoRequest at_is sound is = absurd (cc)
  go (side.Entered request) at_is sound is = absurd (cc)
  go (side.Dialing request dialing) at_is sound is = absurd (cc)
  go (side.Forwarding request f) at_is sound is =
      let to = follows_back request is.0 now old.client (steps.Answered ending) reply new is.2 in
      whole_sent old request f at_is sound.1 (receives_sent law f bytes now is.0 is.1 (sym to ∙ back))
  go (side.Streaming request s) at_is sound is = absurd is
goes_back_whole law ends old new now ending reply sound is back = go old.endpoint is where
  go : (e : EndpointSide)
      → AtForwarded (λ f next. Ends f now next × IsOnce f next) e now old.client (steps.Answered ending) reply new
      → WasWhole old
  go side.NoRequest is = absurd (cc)
  go (side.Entered request) is = absurd (cc)
  go (side.Dialing request dialing) is = absurd (cc)
  go (side.Forwarding request f) is =
      let to = follows_back request is.0 now old.client (steps.Answered ending) reply new is.2 in
      never ending.goes_back back (to ∙ ends_back f now is.0 is.1.0) old
  go (side.Streaming request s) is = absurd is
goes_back_whole law breaks old new now ending reply sound is back = go old.endpoint is where
  go : (e : EndpointSide)
      → AtForwarded (λ f next. (next ≡ failed f now) × IsOnce f next) e now old.client (steps.Answered ending) reply new
      → WasWhole old
  go side.NoRequest is = absurd (cc)
  go (side.Entered request) is = absurd (cc)
  go (side.Dialing request dialing) is = absurd (cc)
  go (side.Forwarding request f) is =
      let to = follows_back request is.0 now old.client (steps.Answered ending) reply new is.2 in
      never ending.goes_back back (to ∙ ap back_by is.1.0 ∙ fails_back f now) old
  go (side.Streaming request s) is = absurd is
goes_back_whole law (dial_fails why) old new now ending reply sound is back = go old.endpoint is where
  go : (e : EndpointSide) → Happens (dial_fails why) (record old { endpoint = e }) now (steps.Answered ending) reply new
      → WasWhole old
  go side.NoRequest is = absurd (cc)
  go (side.Entered request) is = absurd (cc)
  go (side.Dialing request dialing) is = never ending.goes_back back (ap back_of is.0) old
  go (side.Forwarding request f) is = absurd (cc)
  go (side.Streaming request s) is = absurd (cc)
goes_back_whole law passes old new now ending reply sound is back = go old.endpoint is where
  late : (b : Bool) (request : Request) (dialing : Dialing)
      → LooksDialing b request dialing now old.client (steps.Answered ending) reply new → WasWhole old
  late true request dialing is = never ending.goes_back back (ap back_of is.0) old
  late false request dialing is = absurd (cc)

  go : (e : EndpointSide) → Looks e now old.client (steps.Answered ending) reply new → WasWhole old
  go side.NoRequest is = absurd (cc)
  go (side.Entered request) is = absurd (cc)
  go (side.Dialing request dialing) is = late (nat_le dialing.deadlines.until now) request dialing is
  go (side.Forwarding request f) is =
      let to = follows_back request (looked f now) now old.client (steps.Answered ending) reply new is in
      never ending.goes_back back (to ∙ looks_back f now) old
  go (side.Streaming request s) is = absurd is
goes_back_whole law (given_up why) old new now ending reply sound is back = go old.endpoint is where
  go : (e : EndpointSide) → Happens (given_up why) (record old { endpoint = e }) now (steps.Answered ending) reply new
      → WasWhole old
  go side.NoRequest is = absurd (cc)
  go (side.Entered request) is = absurd (cc)
  go (side.Dialing request dialing) is = never ending.goes_back back (ap back_of is.0) old
  go (side.Forwarding request f) is = never ending.goes_back back (ap back_of is.0) old
  go (side.Streaming request s) is = absurd is

-- what an event tells: nothing happened, the request goes on, or this follows from a step
data Led (now : ℕ) (client : Client) (told : EndpointStep) (reply : Option Reply) (new : Sides) : Type 0 where
  absent : told ≡ steps.NotThere → Led now client told reply new
  stays : told ≡ steps.GoesOn → Led now client told reply new
  follows : (request : Request) → (next : Step) → Follows request next now client told reply new
      → Led now client told reply new

led : (event : EndpointEvent) (old : Sides) (e : EndpointSide) (now : ℕ) (told : EndpointStep) (reply : Option Reply)
    (new : Sides) → Happens event (record old { endpoint = e }) now told reply new → Led now old.client told reply new
led (comes bytes) old side.NoRequest now told reply new is = absent is.0
led (comes bytes) old (side.Entered request) now told reply new is = absent is.0
led (comes bytes) old (side.Dialing request dialing) now told reply new is = absent is.0
led (comes bytes) old (side.Forwarding request f) now told reply new is = follows request is.0 is.2
led (comes bytes) old (side.Streaming request s) now told reply new is = absurd is
led ends old side.NoRequest now told reply new is = absent is.0
led ends old (side.Entered request) now told reply new is = absent is.0
led ends old (side.Dialing request dialing) now told reply new is = absent is.0
led ends old (side.Forwarding request f) now told reply new is = follows request is.0 is.2
led ends old (side.Streaming request s) now told reply new is = absurd is
led breaks old side.NoRequest now told reply new is = absent is.0
led breaks old (side.Entered request) now told reply new is = absent is.0
led breaks old (side.Dialing request dialing) now told reply new is = absent is.0
led breaks old (side.Forwarding request f) now told reply new is = follows request is.0 is.2
led breaks old (side.Streaming request s) now told reply new is = absurd is
led (dial_fails why) old side.NoRequest now told reply new is = absent is.0
led (dial_fails why) old (side.Entered request) now told reply new is = absent is.0
led (dial_fails why) old (side.Dialing request dialing) now told reply new is =
    follows request (step.Over (dial_failed why)) is
led (dial_fails why) old (side.Forwarding request f) now told reply new is = absent is.0
led (dial_fails why) old (side.Streaming request s) now told reply new is = absent is.0
led passes old side.NoRequest now told reply new is = absent is.0
led passes old (side.Entered request) now told reply new is = absent is.0
led passes old (side.Dialing request dialing) now told reply new is = go (nat_le dialing.deadlines.until now) is where
  go : (b : Bool) → LooksDialing b request dialing now old.client told reply new → Led now old.client told reply new
  go true is = follows request (step.Over (dial_failed dial.TimedOut)) is
  go false is = stays is.0
led passes old (side.Forwarding request f) now told reply new is = follows request (looked f now) is
led passes old (side.Streaming request s) now told reply new is = absurd is
led (given_up why) old side.NoRequest now told reply new is = absent is.0
led (given_up why) old (side.Entered request) now told reply new is = absent is.0
led (given_up why) old (side.Dialing request dialing) now told reply new is =
    follows request (step.Over (refused (of_giving_up why) health.Unknown)) is
led (given_up why) old (side.Forwarding request f) now told reply new is =
    follows request (step.Over (refused (of_giving_up why) (health_of f.came))) is
led (given_up why) old (side.Streaming request s) now told reply new is = absurd is

-- a request that is answered has no connection
pub loses_its_connection : (event : EndpointEvent) (old new : Sides) (now : ℕ) (ending : Ending) (reply : Option Reply)
    → LosesItsConnection old event now ending reply new
loses_its_connection event old new now ending reply is =
    go (led event old old.endpoint now (steps.Answered ending) reply new is) where
      go : Led now old.client (steps.Answered ending) reply new → new.endpoint ≡ side.NoRequest
      go (absent is) = absurd (cc)
      go (stays is) = absurd (cc)
      go (follows request (step.GoesOn f) is) = absurd (cc)
      go (follows request (step.Again d) is) = absurd (cc)
      go (follows request (step.Over outcome) is) = is.1

-- a request is sent again by the rule of the endpoint's side
again_of : (old : Sides) (request : Request) (f : Forwarded) (next : Step) (now : ℕ) (client : Client)
    (reply : Option Reply) (new : Sides) → old.endpoint ≡ side.Forwarding request f
    → ((d : Dialing) → next ≡ step.Again d → (may_repeat f ≡ true) × (d ≡ again f now))
    → Follows request next now client steps.DialsAgain reply new → RepeatsByRule old now new
again_of old request f (step.GoesOn next) now client reply new at_is rule is = absurd (cc)
again_of old request f (step.Over outcome) now client reply new at_is rule is = absurd (cc)
again_of old request f (step.Again d) now client reply new at_is rule is = record {
  request = request;
  forwarded = f;
  is_there = at_is;
  rule = (rule d refl).0;
  dials = ap (λ (n : Sides). n.endpoint) is.2 ∙ ap (side.Dialing request) (rule d refl).1;
}

no_again : (old : Sides) (request : Request) (next : Step) (now : ℕ) (client : Client) (reply : Option Reply)
    (new : Sides) → ((d : Dialing) → next ≡ step.Again d → ⊥)
    → Follows request next now client steps.DialsAgain reply new → RepeatsByRule old now new
no_again old request (step.GoesOn next) now client reply new none is = absurd (cc)
no_again old request (step.Over outcome) now client reply new none is = absurd (cc)
no_again old request (step.Again d) now client reply new none is = absurd (none d refl)

fails_again : (f : Forwarded) (now : ℕ) (d : Dialing) → failed f now ≡ step.Again d → (may_repeat f ≡ true) × (d ≡ again f now)
fails_again f now d is = go (may_repeat f) refl is where
  go : (b : Bool) → may_repeat f ≡ b
      → cond b (step.Again (again f now)) (step.Over (refused fault.ConnectFailed (health_of f.came))) ≡ step.Again d
      → (may_repeat f ≡ true) × (d ≡ again f now)
  go true may is = (may, cc)
  go false may is = absurd (cc)

looks_no_again : (f : Forwarded) (now : ℕ) (d : Dialing) → looked f now ≡ step.Again d → ⊥
looks_no_again f now d is = go (nat_le f.state.deadlines.until now) is where
  go : (b : Bool) → cond b (step.Over (refused fault.ResponseTimeout (late_health f now))) (step.GoesOn f) ≡ step.Again d → ⊥
  go true is = cc
  go false is = cc

receives_no_again : (f : Forwarded) (bytes : List ℕ) (now : ℕ) (next : Step) → Receives f bytes now next → (d : Dialing)
    → next ≡ step.Again d → ⊥
receives_no_again f bytes now (step.GoesOn next) is d same = cc
receives_no_again f bytes now (step.Again next) is d same = is
receives_no_again f bytes now (step.Over outcome) is d same = cc

ends_again : (f : Forwarded) (now : ℕ) (next : Step) → Ends f now next → (d : Dialing) → next ≡ step.Again d
    → (may_repeat f ≡ true) × (d ≡ again f now)
ends_again f now (step.GoesOn next) is d same = absurd is
ends_again f now (step.Again next) is d same = (is.0, cc)
ends_again f now (step.Over outcome) is d same = absurd (cc)

pub repeats_by_rule : (event : EndpointEvent) (old new : Sides) (now : ℕ) (reply : Option Reply)
    → RepeatsOnlyByRule old event now reply new
repeats_by_rule (comes bytes) old new now reply is = go old.endpoint is where
  go : (e : EndpointSide) → AtForwarded (λ f next. Receives f bytes now next) e now old.client steps.DialsAgain reply new
      → RepeatsByRule old now new
  go side.NoRequest is = absurd (cc)
  go (side.Entered request) is = absurd (cc)
  go (side.Dialing request dialing) is = absurd (cc)
  go (side.Forwarding request f) is =
      no_again old request is.0 now old.client reply new (receives_no_again f bytes now is.0 is.1) is.2
  go (side.Streaming request s) is = absurd is
repeats_by_rule ends old new now reply is = go old.endpoint refl is where
  go : (e : EndpointSide) → old.endpoint ≡ e
      → AtForwarded (λ f next. Ends f now next × IsOnce f next) e now old.client steps.DialsAgain reply new
      → RepeatsByRule old now new
  go side.NoRequest at_is is = absurd (cc)
  go (side.Entered request) at_is is = absurd (cc)
  go (side.Dialing request dialing) at_is is = absurd (cc)
  go (side.Forwarding request f) at_is is =
      again_of old request f is.0 now old.client reply new at_is (ends_again f now is.0 is.1.0) is.2
  go (side.Streaming request s) at_is is = absurd is
repeats_by_rule breaks old new now reply is = go old.endpoint refl is where
  go : (e : EndpointSide) → old.endpoint ≡ e
      → AtForwarded (λ f next. (next ≡ failed f now) × IsOnce f next) e now old.client steps.DialsAgain reply new
      → RepeatsByRule old now new
  go side.NoRequest at_is is = absurd (cc)
  go (side.Entered request) at_is is = absurd (cc)
  go (side.Dialing request dialing) at_is is = absurd (cc)
  go (side.Forwarding request f) at_is is =
      again_of old request f is.0 now old.client reply new at_is
      (λ d same. fails_again f now d (sym is.1.0 ∙ same)) is.2
  go (side.Streaming request s) at_is is = absurd is
repeats_by_rule (dial_fails why) old new now reply is = go old.endpoint is where
  go : (e : EndpointSide) → Happens (dial_fails why) (record old { endpoint = e }) now steps.DialsAgain reply new
      → RepeatsByRule old now new
  go side.NoRequest is = absurd (cc)
  go (side.Entered request) is = absurd (cc)
  go (side.Dialing request dialing) is = absurd (cc)
  go (side.Forwarding request f) is = absurd (cc)
  go (side.Streaming request s) is = absurd (cc)
repeats_by_rule passes old new now reply is = go old.endpoint is where
  late : (b : Bool) (request : Request) (dialing : Dialing)
      → LooksDialing b request dialing now old.client steps.DialsAgain reply new → RepeatsByRule old now new
  late true request dialing is = absurd (cc)
  late false request dialing is = absurd (cc)

  go : (e : EndpointSide) → Looks e now old.client steps.DialsAgain reply new → RepeatsByRule old now new
  go side.NoRequest is = absurd (cc)
  go (side.Entered request) is = absurd (cc)
  go (side.Dialing request dialing) is = late (nat_le dialing.deadlines.until now) request dialing is
  go (side.Forwarding request f) is =
      no_again old request (looked f now) now old.client reply new (looks_no_again f now) is
  go (side.Streaming request s) is = absurd is
repeats_by_rule (given_up why) old new now reply is = go old.endpoint is where
  go : (e : EndpointSide) → Happens (given_up why) (record old { endpoint = e }) now steps.DialsAgain reply new
      → RepeatsByRule old now new
  go side.NoRequest is = absurd (cc)
  go (side.Entered request) is = absurd (cc)
  go (side.Dialing request dialing) is = absurd (cc)
  go (side.Forwarding request f) is = absurd (cc)
  go (side.Streaming request s) is = absurd is

-- a response that was read decides the answer
pub answers_by_its_response : (old new : Sides) (bytes : List ℕ) (now : ℕ) (told : EndpointStep) (reply : Reply)
    → AnswersByItsResponse old bytes now told reply new
answers_by_its_response old new bytes now told reply sound is = go old.endpoint refl sound is where
  go : (e : EndpointSide) → old.endpoint ≡ e → IsSound old.client e
      → AtForwarded (λ f next. Receives f bytes now next) e now old.client told (Some reply) new
      → IsDecidedBy old bytes (given_in told) reply
  go side.NoRequest at_is sound is = absurd (cc)
  go (side.Entered request) at_is sound is = absurd (cc)
  go (side.Dialing request dialing) at_is sound is = absurd (cc)
  go (side.Forwarding request f) at_is sound is = by is.0 is.1 is.2 where
    by : (next : Step) → Receives f bytes now next → Follows request next now old.client told (Some reply) new
        → IsDecidedBy old bytes (given_in told) reply
    by (step.GoesOn next) received is = absurd (cc)
    by (step.Again next) received is = absurd received
    by (step.Over outcome) received is = record {
      forwarded = f;
      outcome = outcome;
      is_there = at_is ∙ ap (λ r. side.Forwarding r f) (sym is.2.0);
      is_sent = subst (λ r. IsForwarded r f) (sym is.2.0) sound.1;
      decided = received;
      answer_is = subst (λ r. IsAnswerTo old.client r outcome.answer (given_in told) reply.answer) (sym is.2.0) is.2.1;
    }
  go (side.Streaming request s) at_is sound is = absurd is
