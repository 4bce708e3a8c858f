-- The calls of the client's connection by which a request is answered, and what is no request is refused.
use Rattle.std.proofs.Common.{◌≡◌, ◌∙◌, ℕ, Bool, true, false, List, [], ◌∷◌, ◌++◌, refl, sym, ap, subst, nat_le, Option, Some, None}
use Rattle.bg_http.specs.Statuses.{request_status}
use Rattle.bg_http.specs.declared.request.Request.{Request}
use Rattle.bg_http.specs.declared.request_fault.RequestFault.{RequestFault}
use Rattle.bg_client_side.specs.Clients.{Client, failed_at}
use Rattle.bg_client_side.specs.Runs.{ClientCall, Runs}
use Rattle.bg_client_side.specs.Stages.{awaits_answer, is_inside}
use Rattle.bg_client_side.specs.declared.reading.Fed.{Fed}
use Rattle.bg_client_side.specs.declared.reading.Fed.TheVariants as fed
use Rattle.bg_client_side.specs.declared.stage.Stage.{Stage}
use Rattle.bg_client_side.specs.declared.stage.Stage.TheVariants as stage
use Rattle.bg_endpoint_side.specs.Dialing.{Dialing, Forwarded}
use Rattle.bg_endpoint_side.specs.Forwarding.{looked}
use Rattle.bg_endpoint_side.specs.Outcomes.{health_of, of_giving_up, refused}
use Rattle.bg_endpoint_side.specs.declared.forwarded_request.Step.{Step}
use Rattle.bg_endpoint_side.specs.declared.forwarded_request.Step.TheVariants as step
use Rattle.bg_endpoint_side.specs.declared.outcome.DialFault.TheVariants as dial
use Rattle.bg_endpoint_side.specs.declared.outcome.GivingUp.{GivingUp}
use Rattle.bg_endpoint_side.specs.declared.outcome.Health.TheVariants as health
use Rattle.bg_endpoint_side.specs.declared.outcome.Outcome.{Outcome}
use Rattle.bg_both_sides.proofs.ClientLemmas.{IsAt}
use Rattle.bg_both_sides.specs.Answers.{Answer, Reply, lacks, says, with_answer}
use Rattle.bg_both_sides.specs.ClientEvents.{RefusesBy, RefusesFault}
use Rattle.bg_both_sides.specs.EndpointEvents.{AtDialing, AtForwarded, Follows, GivesUp, Looks, LooksDialing, RefusesEntered, dial_failed}
use Rattle.bg_both_sides.specs.Runs.{answer_calls, fault_calls, reply_calls}
use Rattle.bg_both_sides.specs.Sides.{IsSound, Sides}
use Rattle.bg_both_sides.specs.declared.endpoint_side.EndpointSide.{EndpointSide}
use Rattle.bg_both_sides.specs.declared.endpoint_side.EndpointSide.TheVariants as side
use Rattle.bg_both_sides.specs.declared.endpoint_step.EndpointStep.{EndpointStep}

-- calls, and then others
pub runs_on : (xs ys : List ClientCall) (a b c : Client) → Runs a xs b → Runs b ys c → Runs a (xs ++ ys) c
runs_on [] ys a b c first second = subst (λ (s : Client). Runs s ys c) (sym first) second
runs_on (x ∷ xs) ys a b c first second = (first.0, first.1, runs_on xs ys first.0 b c first.2 second)

-- an answer is given by calls of the client's connection
pub answer_runs : (inside : Bool) (answer : Answer) (now : ℕ) (old new : Client) → awaits_answer old.stage ≡ true
    → awaits_answer (failed_at old.stage old).stage ≡ inside → new ≡ with_answer answer now old
    → Runs old (answer_calls inside answer now) new
answer_runs inside (says text weight persistence) now old new awaits after is = (new, (sym awaits, is), refl)
answer_runs inside (lacks weight) now old new awaits after is =
    (failed_at old.stage old, refl, (new, (sym after, is), refl))

-- a request that is inside awaits an answer, also after its connection failed
pub inside_awaits : (c : Client) → is_inside c.stage ≡ true
    → (awaits_answer c.stage ≡ true) × (awaits_answer (failed_at c.stage c).stage ≡ true)
inside_awaits c inside = go c.stage refl inside where
  go : (s : Stage) → c.stage ≡ s → is_inside s ≡ true
      → (awaits_answer c.stage ≡ true) × (awaits_answer (failed_at s c).stage ≡ true)
  go stage.Idle at_is inside = absurd (cc)
  go stage.Reading at_is inside = absurd (cc)
  go stage.Continuing at_is inside = absurd (cc)
  go (stage.Waiting request) at_is inside = absurd (cc)
  go stage.Inside at_is inside = (ap awaits_answer at_is, ap awaits_answer at_is)
  go (stage.PassingOn passing) at_is inside = (ap awaits_answer at_is, ap awaits_answer at_is)
  go (stage.Refused named) at_is inside = absurd (cc)
  go (stage.Answering answering) at_is inside = absurd (cc)
  go (stage.Lingering lingering) at_is inside = absurd (cc)
  go stage.Left at_is inside = absurd (cc)

-- what is no request awaits an answer, and does not after its connection failed
refused_awaits : (c : Client) (s : Stage) → c.stage ≡ s → (named : RequestFault) → s ≡ stage.Refused named
    → (awaits_answer c.stage ≡ true) × (awaits_answer (failed_at c.stage c).stage ≡ false)
refused_awaits c s at_is named is =
    let is_refused = at_is ∙ is in
    (ap awaits_answer is_refused, ap (λ t. awaits_answer (failed_at t c).stage) is_refused)

nothing_runs : (answer : Option Answer) (now : ℕ) (old new : Client) → answer ≡ None → new ≡ old
    → Runs old (fault_calls answer now) new
nothing_runs None now old new none is = sym is
nothing_runs (Some answer) now old new none is = absurd (cc)

pub fault_runs : (result : Fed) (now : ℕ) (read : Client) (answer : Option Answer) (new : Client) → IsAt result read
    → RefusesFault result now read answer new → Runs read (fault_calls answer now) new
fault_runs fed.NotReading now read answer new at_is is = nothing_runs answer now read new is.0 is.1
fault_runs fed.More now read answer new at_is is = nothing_runs answer now read new is.0 is.1
fault_runs fed.OwesContinue now read answer new at_is is = nothing_runs answer now read new is.0 is.1
fault_runs fed.Whole now read answer new at_is is = nothing_runs answer now read new is.0 is.1
fault_runs (fed.Refused named) now read answer new at_is is = go (request_status named) answer is where
  go : (status : Option ℕ) (answer : Option Answer) → RefusesBy named status now read answer new
      → Runs read (fault_calls answer now) new
  go None answer is = nothing_runs answer now read new is.0 is.1
  go (Some status) None is = absurd is
  go (Some status) (Some answer) is =
      let awaits = refused_awaits read read.stage refl named at_is in
      answer_runs false answer now read new awaits.0 awaits.1 is.1

no_reply : (reply : Option Reply) (now : ℕ) (old new : Client) → reply ≡ None → new ≡ old
    → Runs old (reply_calls reply now) new
no_reply None now old new none is = sym is
no_reply (Some reply) now old new none is = absurd (cc)

stays_runs : (client : Client) (endpoint : EndpointSide) (now : ℕ) (reply : Option Reply) (new : Sides) → reply ≡ None
    → new ≡ record { client = client; endpoint = endpoint } → Runs client (reply_calls reply now) new.client
stays_runs client endpoint now reply new none is =
    no_reply reply now client new.client none (ap (λ (n : Sides). n.client) is)

pub follows_runs : (request : Request) (next : Step) (now : ℕ) (client : Client) (told : EndpointStep) (reply : Option Reply)
    (new : Sides) → is_inside client.stage ≡ true → Follows request next now client told reply new
    → Runs client (reply_calls reply now) new.client
follows_runs request (step.GoesOn f) now client told reply new inside is =
    stays_runs client (side.Forwarding request f) now reply new is.1 is.2
follows_runs request (step.Again d) now client told reply new inside is =
    stays_runs client (side.Dialing request d) now reply new is.1 is.2
follows_runs request (step.Over outcome) now client told None new inside is = absurd is.2
follows_runs request (step.Over outcome) now client told (Some reply) new inside is =
    let awaits = inside_awaits client inside in
    answer_runs true reply.answer now client new.client awaits.0 awaits.1 is.2.2

pub refuses_runs : (endpoint : EndpointSide) (now : ℕ) (client : Client) (told : Bool) (reply : Option Reply) (new : Sides)
    → IsSound client endpoint → RefusesEntered endpoint now client told reply new
    → Runs client (reply_calls reply now) new.client
refuses_runs side.NoRequest now client told reply new sound is =
    stays_runs client side.NoRequest now reply new is.1 is.2
refuses_runs (side.Entered request) now client told None new sound is = absurd is
refuses_runs (side.Entered request) now client told (Some reply) new sound is =
    let awaits = inside_awaits client sound in
    answer_runs true reply.answer now client new.client awaits.0 awaits.1 (ap (λ (n : Sides). n.client) is.3)
refuses_runs (side.Dialing request dialing) now client told reply new sound is =
    stays_runs client (side.Dialing request dialing) now reply new is.1 is.2
refuses_runs (side.Forwarding request f) now client told reply new sound is =
    stays_runs client (side.Forwarding request f) now reply new is.1 is.2
refuses_runs (side.Streaming request s) now client told reply new sound is =
    stays_runs client (side.Streaming request s) now reply new is.1 is.2

pub forwarded_runs : (Steps : Forwarded → Step → Type 0) (endpoint : EndpointSide) (now : ℕ) (client : Client)
    (told : EndpointStep) (reply : Option Reply) (new : Sides) → IsSound client endpoint
    → AtForwarded Steps endpoint now client told reply new → Runs client (reply_calls reply now) new.client
forwarded_runs Steps side.NoRequest now client told reply new sound is =
    stays_runs client side.NoRequest now reply new is.1 is.2
forwarded_runs Steps (side.Entered request) now client told reply new sound is =
    stays_runs client (side.Entered request) now reply new is.1 is.2
forwarded_runs Steps (side.Dialing request dialing) now client told reply new sound is =
    stays_runs client (side.Dialing request dialing) now reply new is.1 is.2
forwarded_runs Steps (side.Forwarding request f) now client told reply new sound is =
    follows_runs request is.0 now client told reply new sound.0 is.2
forwarded_runs Steps (side.Streaming request s) now client told reply new sound is = absurd is

pub dialing_runs : (outcome : Dialing → Outcome) (endpoint : EndpointSide) (now : ℕ) (client : Client) (told : EndpointStep)
    (reply : Option Reply) (new : Sides) → IsSound client endpoint
    → AtDialing outcome endpoint now client told reply new → Runs client (reply_calls reply now) new.client
dialing_runs outcome side.NoRequest now client told reply new sound is =
    stays_runs client side.NoRequest now reply new is.1 is.2
dialing_runs outcome (side.Entered request) now client told reply new sound is =
    stays_runs client (side.Entered request) now reply new is.1 is.2
dialing_runs outcome (side.Dialing request dialing) now client told reply new sound is =
    follows_runs request (step.Over (outcome dialing)) now client told reply new sound.0 is
dialing_runs outcome (side.Forwarding request f) now client told reply new sound is =
    stays_runs client (side.Forwarding request f) now reply new is.1 is.2
dialing_runs outcome (side.Streaming request s) now client told reply new sound is =
    stays_runs client (side.Streaming request s) now reply new is.1 is.2

pub looks_runs : (endpoint : EndpointSide) (now : ℕ) (client : Client) (told : EndpointStep) (reply : Option Reply)
    (new : Sides) → IsSound client endpoint → Looks endpoint now client told reply new
    → Runs client (reply_calls reply now) new.client
looks_runs side.NoRequest now client told reply new sound is =
    stays_runs client side.NoRequest now reply new is.1 is.2
looks_runs (side.Entered request) now client told reply new sound is =
    stays_runs client (side.Entered request) now reply new is.1 is.2
looks_runs (side.Dialing request dialing) now client told reply new sound is =
    go (nat_le dialing.deadlines.until now) is where
      go : (b : Bool) → LooksDialing b request dialing now client told reply new
          → Runs client (reply_calls reply now) new.client
      go true is = follows_runs request (step.Over (dial_failed dial.TimedOut)) now client told reply new sound.0 is
      go false is = stays_runs client (side.Dialing request dialing) now reply new is.1 is.2
looks_runs (side.Forwarding request f) now client told reply new sound is =
    follows_runs request (looked f now) now client told reply new sound.0 is
looks_runs (side.Streaming request s) now client told reply new sound is = absurd is

pub gives_up_runs : (why : GivingUp) (endpoint : EndpointSide) (now : ℕ) (client : Client) (told : EndpointStep)
    (reply : Option Reply) (new : Sides) → IsSound client endpoint → GivesUp why endpoint now client told reply new
    → Runs client (reply_calls reply now) new.client
gives_up_runs why side.NoRequest now client told reply new sound is =
    stays_runs client side.NoRequest now reply new is.1 is.2
gives_up_runs why (side.Entered request) now client told reply new sound is =
    stays_runs client (side.Entered request) now reply new is.1 is.2
gives_up_runs why (side.Dialing request dialing) now client told reply new sound is =
    follows_runs request (step.Over (refused (of_giving_up why) health.Unknown)) now client told reply new sound.0 is
gives_up_runs why (side.Forwarding request f) now client told reply new sound is =
    follows_runs request (step.Over (refused (of_giving_up why) (health_of f.came))) now client told reply new sound.0 is
gives_up_runs why (side.Streaming request s) now client told reply new sound is = absurd is
