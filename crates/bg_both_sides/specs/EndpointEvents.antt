-- What happens to the request at its endpoint.
use Rattle.std.specs.Prelude.{◌≡◌, ℕ, Bool, true, false, ◌&&◌, not, nat_le, List, Option, Some, None, Ok, IsFalse}
use Rattle.bg_http.specs.Elements.{Field}
use Rattle.bg_http.specs.declared.request.Request.{Request}
use Rattle.bg_client_side.specs.Clients.{Client}
use Rattle.bg_endpoint_side.specs.Deadlines.{deadlines_from}
use Rattle.bg_endpoint_side.specs.Dialing.{Dialing, Forwarded, begins_on, elsewhere, may_go_elsewhere}
use Rattle.bg_endpoint_side.specs.Forwarding.{is_again, looked}
use Rattle.bg_endpoint_side.specs.Methods.{is_idempotent}
use Rattle.bg_endpoint_side.specs.Outcomes.{health_of, health_of_dial, of_dial, of_giving_up, refused}
use Rattle.bg_endpoint_side.specs.declared.forwarded_request.Step.{Step}
use Rattle.bg_endpoint_side.specs.declared.forwarded_request.Step.TheVariants as step
use Rattle.bg_endpoint_side.specs.declared.outcome.DialFault.{DialFault}
use Rattle.bg_endpoint_side.specs.declared.outcome.DialFault.TheVariants as dial
use Rattle.bg_endpoint_side.specs.declared.outcome.GivingUp.{GivingUp}
use Rattle.bg_endpoint_side.specs.declared.outcome.ForwardFault.TheVariants as fault
use Rattle.bg_endpoint_side.specs.declared.outcome.Health.TheVariants as health
use Rattle.bg_endpoint_side.specs.declared.outcome.Outcome.{Outcome}
use Rattle.bg_endpoint_side.specs.declared.terms.Terms.{Terms}
use Rattle.bg_upgrade.specs.Upgrades.{asks_for_upgrade}
use Rattle.bg_both_sides.specs.Answers.{IsRefusal, Replies, Reply, page_of, with_answer}
use Rattle.bg_both_sides.specs.Sides.{Sides, forwarded_text}
use Rattle.bg_both_sides.specs.declared.endpoint_step.Ending.{Ending}
use Rattle.bg_both_sides.specs.declared.endpoint_step.Given.{Given}
use Rattle.bg_both_sides.specs.declared.endpoint_step.Given.TheVariants as given
use Rattle.bg_both_sides.specs.declared.endpoint_step.EndpointStep.{EndpointStep}
use Rattle.bg_both_sides.specs.declared.endpoint_step.EndpointStep.TheVariants as steps
use Rattle.bg_both_sides.specs.declared.endpoint_side.EndpointSide.{EndpointSide}
use Rattle.bg_both_sides.specs.declared.endpoint_side.EndpointSide.TheVariants as side
use Rattle.bg_both_sides.specs.declared.route.Route.{Route}

-- THE REQUEST IS SENT

-- a request that entered is forwarded with these fields in the place of its own
abbrev pub with_fields : List Field → EndpointSide → EndpointSide
with_fields fields (side.Entered request) = side.Entered (record request { fields = fields })
with_fields fields other = other

-- what a request means for the connection to its endpoint on this route
abbrev pub terms_on : Request → Route → Terms
terms_on request route = record {
  port = route.port;
  persistence = route.persistence;
  is_idempotent = is_idempotent request.method;
  asks_for_upgrade = route.upgrades && asks_for_upgrade request;
}

-- a request is dialled for, with the text in which it is forwarded
abbrev pub dialing_for : Request → Route → ℕ → Dialing
dialing_for request route now = record {
  request = request;
  text = forwarded_text (terms_on request route) request;
  terms = terms_on request route;
  deadlines = deadlines_from route.timeouts now;
  is_again = false;
}

-- a request that entered is dialled for, or stays, since there was no memory for its text
abbrev pub DialsFor : Bool → Request → Route → ℕ → EndpointSide → Type 0
DialsFor true request route now new = new ≡ side.Dialing request (dialing_for request route now)
DialsFor false request route now new = new ≡ side.Entered request

-- the terms of a request on another route
abbrev pub terms_elsewhere : Terms → Route → Terms
terms_elsewhere terms route = record terms { port = route.port; persistence = route.persistence }

-- a request that is dialled for is dialled for at another endpoint, with its text as it is forwarded there
abbrev pub dialing_elsewhere : Request → Dialing → Route → ℕ → Dialing
dialing_elsewhere request dialing route now =
    elsewhere dialing (forwarded_text (terms_elsewhere dialing.terms route) request) (terms_elsewhere dialing.terms route) now

-- it is, if it may be; or it stays, since it may not be, or since there was no memory for its text
abbrev pub DialsElsewhere : Bool → Bool → Request → Dialing → Route → ℕ → EndpointSide → Type 0
DialsElsewhere true true request dialing route now new =
    new ≡ side.Dialing request (dialing_elsewhere request dialing route now)
DialsElsewhere true false request dialing route now new = new ≡ side.Dialing request dialing
DialsElsewhere false dials request dialing route now new = (dials ≡ false) × (new ≡ side.Dialing request dialing)

-- the request is dialled for from now on; otherwise nothing changes
abbrev pub Dials : EndpointSide → Route → ℕ → Bool → EndpointSide → Type 0
Dials (side.Entered request) route now dials new = DialsFor dials request route now new
Dials (side.Dialing request dialing) route now dials new =
    DialsElsewhere (may_go_elsewhere dialing now) dials request dialing route now new
Dials other route now dials new = (dials ≡ false) × (new ≡ other)

-- a connection that was kept, or a new one, becomes that of the request: one is awaited, and a request that is sent again
-- takes a new one
abbrev pub takes_connection : Bool → EndpointSide → Bool
takes_connection is_kept (side.Dialing request dialing) = not (is_kept && dialing.is_again)
takes_connection is_kept other = false

abbrev pub on_connection : Bool → ℕ → EndpointSide → EndpointSide
on_connection is_kept now (side.Dialing request dialing) = side.Forwarding request (begins_on is_kept dialing now)
on_connection is_kept now other = other

abbrev pub begins : Bool → Bool → ℕ → EndpointSide → EndpointSide
begins true is_kept now endpoint = on_connection is_kept now endpoint
begins false is_kept now endpoint = endpoint

abbrev pub connected : Bool → ℕ → Sides → Sides
connected is_kept now sides =
    record sides { endpoint = begins (takes_connection is_kept sides.endpoint) is_kept now sides.endpoint }

-- a request that is forwarded is changed so
abbrev pub on_forwarded : (Forwarded → Forwarded) → EndpointSide → EndpointSide
on_forwarded change (side.Forwarding request forwarded) = side.Forwarding request (change forwarded)
on_forwarded change (side.Streaming request streamed) =
    side.Streaming request (record streamed { forwarded = change streamed.forwarded })
on_forwarded change other = other

-- WHAT BECOMES OF IT

-- what is told of the answer; only if there is one
abbrev pub given_in : EndpointStep → Given
given_in (steps.Answered ending) = ending.given
given_in other = given.Refusal fault.GivenUp

-- the request is over, this is told of its answer, and this becomes of its connection and is told of its endpoint
abbrev pub ending_of : Outcome → Given → Ending
ending_of outcome told = record { given = told; goes_back = outcome.goes_back; health = outcome.health }

-- the request goes on, is sent again on another connection, or is answered
abbrev pub Follows : Request → Step → ℕ → Client → EndpointStep → Option Reply → Sides → Type 0
Follows request (step.GoesOn forwarded) now client told reply new =
    (told ≡ steps.GoesOn) × (reply ≡ None) × (new ≡ record { client = client; endpoint = side.Forwarding request forwarded })
Follows request (step.Again dialing) now client told reply new =
    (told ≡ steps.DialsAgain) × (reply ≡ None) × (new ≡ record { client = client; endpoint = side.Dialing request dialing })
Follows request (step.Over outcome) now client told reply new =
    (told ≡ steps.Answered (ending_of outcome (given_in told))) × (new.endpoint ≡ side.NoRequest)
    × Replies request outcome.answer (given_in told) now client reply new.client

-- an event on the connection of a request that is forwarded leads to such a step; without one nothing changes. Nothing is said of a
-- response that is passed on
abbrev pub AtForwarded : (Forwarded → Step → Type 0) → EndpointSide → ℕ → Client → EndpointStep → Option Reply → Sides → Type 0
AtForwarded Steps (side.Forwarding request forwarded) now client told reply new =
    (step : Step) × Steps forwarded step × Follows request step now client told reply new
AtForwarded Steps (side.Streaming request streamed) now client told reply new = ⊥
AtForwarded Steps other now client told reply new =
    (told ≡ steps.NotThere) × (reply ≡ None) × (new ≡ record { client = client; endpoint = other })

-- a request that is sent again is not sent once more
abbrev pub IsOnce : Forwarded → Step → Type 0
IsOnce forwarded step = forwarded.state.is_again ≡ true → IsFalse (is_again step)

-- a dial ends with this outcome; without a dial nothing changes
abbrev pub AtDialing : (Dialing → Outcome) → EndpointSide → ℕ → Client → EndpointStep → Option Reply → Sides → Type 0
AtDialing outcome (side.Dialing request dialing) now client told reply new =
    Follows request (step.Over (outcome dialing)) now client told reply new
AtDialing outcome other now client told reply new =
    (told ≡ steps.NotThere) × (reply ≡ None) × (new ≡ record { client = client; endpoint = other })

-- the dial failed
abbrev pub dial_failed : DialFault → Outcome
dial_failed why = refused (of_dial why) (health_of_dial why)

-- a moment: a dial, or a request that is forwarded, is late, or goes on. Nothing is said of a response that is passed on
abbrev pub LooksDialing : Bool → Request → Dialing → ℕ → Client → EndpointStep → Option Reply → Sides → Type 0
LooksDialing true request dialing now client told reply new =
    Follows request (step.Over (dial_failed dial.TimedOut)) now client told reply new
LooksDialing false request dialing now client told reply new =
    (told ≡ steps.GoesOn) × (reply ≡ None) × (new ≡ record { client = client; endpoint = side.Dialing request dialing })

abbrev pub Looks : EndpointSide → ℕ → Client → EndpointStep → Option Reply → Sides → Type 0
Looks (side.Dialing request dialing) now client told reply new =
    LooksDialing (nat_le dialing.deadlines.until now) request dialing now client told reply new
Looks (side.Forwarding request forwarded) now client told reply new =
    Follows request (looked forwarded now) now client told reply new
Looks (side.Streaming request streamed) now client told reply new = ⊥
Looks other now client told reply new = (told ≡ steps.NotThere) × (reply ≡ None) × (new ≡ record { client = client; endpoint = other })

-- the request is given up, if it is on its way. Nothing is said of a response that is passed on
abbrev pub GivesUp : GivingUp → EndpointSide → ℕ → Client → EndpointStep → Option Reply → Sides → Type 0
GivesUp why (side.Dialing request dialing) now client told reply new =
    Follows request (step.Over (refused (of_giving_up why) health.Unknown)) now client told reply new
GivesUp why (side.Forwarding request forwarded) now client told reply new =
    Follows request (step.Over (refused (of_giving_up why) (health_of forwarded.came))) now client told reply new
GivesUp why (side.Streaming request streamed) now client told reply new = ⊥
GivesUp why other now client told reply new = (told ≡ steps.NotThere) × (reply ≡ None) × (new ≡ record { client = client; endpoint = other })

-- the request that entered is refused with 503, if there is one
abbrev pub RefusesEntered : EndpointSide → ℕ → Client → Bool → Option Reply → Sides → Type 0
RefusesEntered (side.Entered request) now client told None new = ⊥
RefusesEntered (side.Entered request) now client told (Some reply) new =
    (told ≡ true) × (reply.request ≡ request) × IsRefusal (page_of client (Ok request)) 503 reply.answer
    × (new ≡ record { client = with_answer reply.answer now client; endpoint = side.NoRequest })
RefusesEntered other now client told reply new =
    (told ≡ false) × (reply ≡ None) × (new ≡ record { client = client; endpoint = other })
