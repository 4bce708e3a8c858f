-- The answers to requests.
use Rattle.std.proofs.Common.{◌≡◌, ℕ, true, refl, sym, subst, ap, Option, Some, None, Ok, Err}
use Rattle.bg_http.specs.declared.request.Request.{Request}
use Rattle.bg_http.specs.declared.response.Response.{Response}
use Rattle.bg_client_side.specs.Clients.{Client}
use Rattle.bg_endpoint_side.specs.Dialing.{Forwarded}
use Rattle.bg_endpoint_side.specs.Outcomes.{fault_status, refused}
use Rattle.bg_endpoint_side.specs.Streaming.{Streamed}
use Rattle.bg_endpoint_side.specs.declared.streamed_step.StreamedStep.{StreamedStep}
use Rattle.bg_endpoint_side.specs.declared.forwarded_request.Step.{Step}
use Rattle.bg_endpoint_side.specs.declared.forwarded_request.Step.TheVariants as step
use Rattle.bg_endpoint_side.specs.declared.outcome.Health.{Health}
use Rattle.bg_endpoint_side.specs.declared.outcome.ForwardFault.{ForwardFault}
use Rattle.bg_endpoint_side.specs.declared.outcome.ForwardFault.TheVariants as fault
use Rattle.bg_http.specs.declared.response_fault.ResponseFault.TheVariants as response_fault
use Rattle.bg_both_sides.specs.declared.endpoint_step.Given.TheVariants as given
use Rattle.bg_both_sides.specs.Answers.{Answer, Refuses, Replies, Reply}
use Rattle.bg_both_sides.specs.EndpointEvents.{AtForwarded, Follows, RefusesEntered}
use Rattle.bg_both_sides.specs.Sides.{Sides}
use Rattle.bg_both_sides.specs.StreamedEvents.{AtStreamed, FollowsStreamed, Refuses as RefusesStreamed, Telling, refuses}
use Rattle.bg_both_sides.specs.declared.endpoint_side.EndpointSide.{EndpointSide}
use Rattle.bg_both_sides.specs.declared.endpoint_side.EndpointSide.TheVariants as side
use Rattle.bg_both_sides.specs.declared.endpoint_step.EndpointStep.{EndpointStep}

-- a refusal, since there was no memory for the text of a response
pub unwritten_reply : (request : Request) (response : Response) (now : ℕ) (old new : Client) (answer : Option Answer)
    → Refuses (Ok request) 503 now old answer new
    → (reply : Option Reply)
    × Replies request (Ok response) (given.Refusal (fault.Response response_fault.OutOfMemory)) now old reply new
unwritten_reply request response now old new None is = absurd is
unwritten_reply request response now old new (Some answer) is =
    (Some (record { request = request; answer = answer }), (refl, (refl, is.0), is.1))

-- a refusal with the status of a fault
pub faulty_reply : (request : Request) (named : ForwardFault) (now : ℕ) (old new : Client) (answer : Option Answer)
    → Refuses (Ok request) (fault_status named) now old answer new
    → (reply : Option Reply) × Replies request (Err named) (given.Refusal named) now old reply new
faulty_reply request named now old new None is = absurd is
faulty_reply request named now old new (Some answer) is =
    (Some (record { request = request; answer = answer }), (refl, (refl, is.0), is.1))

-- a refusal of the request that entered
pub entered_reply : (request : Request) (now : ℕ) (old new : Client) (answer : Option Answer)
    → Refuses (Ok request) 503 now old answer new
    → (reply : Option Reply)
    × RefusesEntered (side.Entered request) now old true reply (record { client = new; endpoint = side.NoRequest })
entered_reply request now old new None is = absurd is
entered_reply request now old new (Some answer) is =
    (Some (record { request = request; answer = answer }), (refl, refl, is.0, ap (λ c. record { client = c; endpoint = side.NoRequest }) is.1))

-- a refusal in the place of a response that would be passed on
pub refused_telling : (request : Request) (why : ForwardFault) (told_of : Health) (now : ℕ) (client : Client) (told : EndpointStep)
    (reply : Option Reply) (new : Sides) → Follows request (step.Over (refused why told_of)) now client told reply new
    → (telling : Telling) × RefusesStreamed request why told_of now client told telling new
refused_telling request why told_of now client told None new is = absurd is.2
refused_telling request why told_of now client told (Some reply) new is = (refuses reply, (reply, refl, is))

-- a step of a request whose response is passed on
pub at_streamed : (Steps : Streamed → StreamedStep → Type 0) (endpoint : EndpointSide) (request : Request) (s : Streamed)
    (next : StreamedStep) (now : ℕ) (client : Client) (told : EndpointStep) (telling : Telling) (new : Sides)
    → endpoint ≡ side.Streaming request s → Steps s next → FollowsStreamed request next now client told telling new
    → (given : Telling) × AtStreamed Steps endpoint now client told given new
at_streamed Steps endpoint request s next now client told telling new is steps follows =
    subst (λ (e : EndpointSide). (given : Telling) × AtStreamed Steps e now client told given new) (sym is)
    (telling, (next, steps, follows))

-- a step of a request that is forwarded
pub at_forwarded : (Steps : Forwarded → Step → Type 0) (endpoint : EndpointSide) (request : Request) (f : Forwarded)
    (next : Step) (now : ℕ) (client : Client) (told : EndpointStep) (reply : Option Reply) (new : Sides)
    → endpoint ≡ side.Forwarding request f → Steps f next → Follows request next now client told reply new
    → (given : Option Reply) × AtForwarded Steps endpoint now client told given new
at_forwarded Steps endpoint request f next now client told reply new is steps follows =
    subst (λ (e : EndpointSide). (given : Option Reply) × AtForwarded Steps e now client told given new) (sym is)
    (reply, (next, steps, follows))
