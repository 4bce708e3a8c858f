-- What keeps the two sides of a client's connection together.
use Rattle.std.proofs.Common.{◌≡◌, ◌∙◌, ℕ, Bool, true, false, cond, ◌&&◌, not, nat_le, nat_lt, List, ◌++◌, refl, sym, ap, subst, Option, Some, None}
use Rattle.std.specs.Prelude.{⊤}
use Rattle.bg_http.specs.Codings.{is_empty}
use Rattle.bg_http.specs.declared.request.Request.{Request}
use Rattle.bg_client_side.specs.Clients.{Client}
use Rattle.bg_client_side.specs.Stages.{is_inside}
use Rattle.bg_endpoint_side.specs.Dialing.{Dialing, Forwarded, may_go_elsewhere}
use Rattle.bg_endpoint_side.specs.Forwarding.{Ends, Receives, again, failed, late_health, looked, may_repeat, renew_if, unread, with_bytes, with_end, wrote}
use Rattle.bg_endpoint_side.specs.Outcomes.{health_of, of_giving_up, refused}
use Rattle.bg_endpoint_side.specs.OutgoingTexts.{whole, with_written}
use Rattle.bg_endpoint_side.specs.declared.forwarded_request.Step.{Step}
use Rattle.bg_endpoint_side.specs.declared.forwarded_request.Step.TheVariants as step
use Rattle.bg_endpoint_side.specs.declared.outcome.DialFault.TheVariants as dial
use Rattle.bg_endpoint_side.specs.declared.outcome.ForwardFault.TheVariants as fault
use Rattle.bg_endpoint_side.specs.declared.outcome.GivingUp.{GivingUp}
use Rattle.bg_endpoint_side.specs.declared.outcome.Health.TheVariants as health
use Rattle.bg_endpoint_side.specs.declared.outcome.Outcome.{Outcome}
use Rattle.bg_endpoint_side.specs.declared.terms.Terms.{Terms}
use Rattle.bg_upgrade.specs.Upgrades.{asks_for_upgrade}
use Rattle.bg_both_sides.proofs.ClientLemmas.{replied_outside}
use Rattle.bg_both_sides.specs.Answers.{Replies, Reply}
use Rattle.bg_both_sides.specs.ClientEvents.{entered_as}
use Rattle.bg_both_sides.specs.EndpointEvents.{AtDialing, AtForwarded, Dials, DialsElsewhere, Follows, GivesUp, Looks, LooksDialing, RefusesEntered, begins, dial_failed, given_in, on_forwarded, terms_on}
use Rattle.bg_both_sides.specs.Sides.{IsDialed, IsForwarded, IsSound, Sides, forwarded_text}
use Rattle.bg_both_sides.specs.declared.endpoint_step.Given.{Given}
use Rattle.bg_both_sides.specs.declared.endpoint_step.EndpointStep.{EndpointStep}
use Rattle.bg_both_sides.specs.declared.endpoint_side.EndpointSide.{EndpointSide}
use Rattle.bg_both_sides.specs.declared.endpoint_side.EndpointSide.TheVariants as side
use Rattle.bg_both_sides.specs.declared.route.Route.{Route}

-- an event on the client's connection after which a request is inside as before
pub sound_alike : (old new : Client) (endpoint : EndpointSide) → is_inside new.stage ≡ is_inside old.stage
    → IsSound old endpoint → IsSound new endpoint
sound_alike old new side.NoRequest alike sound = alike ∙ sound
sound_alike old new (side.Entered request) alike sound = alike ∙ sound
sound_alike old new (side.Dialing request dialing) alike sound = (alike ∙ sound.0, sound.1)
sound_alike old new (side.Forwarding request forwarded) alike sound = (alike ∙ sound.0, sound.1)
sound_alike old new (side.Streaming request s) alike sound = (alike ∙ sound.0, sound.1)

pub renewed_is : (b : Bool) (request : Request) (f : Forwarded) (now : ℕ) → IsForwarded request f → IsForwarded request (renew_if b f now)
renewed_is true request f now is = record { read_is = is.read_is; text_is = is.text_is; idempotent_is = is.idempotent_is; asks_is = is.asks_is }
renewed_is false request f now is = is

-- the text stays that of the request
pub wrote_is : (request : Request) (f : Forwarded) (count now : ℕ) → whole (wrote f count now).text ≡ whole f.text
    → IsForwarded request f → IsForwarded request (wrote f count now)
wrote_is request f count now same is = record {
  read_is = request_stays (nat_lt 0 count) ∙ is.read_is;
  text_is = same ∙ is.text_is ∙ ap (λ (t : Terms). forwarded_text t request) (sym (terms_stay (nat_lt 0 count)));
  idempotent_is = ap (λ (t : Terms). t.is_idempotent) (terms_stay (nat_lt 0 count)) ∙ is.idempotent_is;
  asks_is = λ asks. is.asks_is (sym (ap (λ (t : Terms). t.asks_for_upgrade) (terms_stay (nat_lt 0 count))) ∙ asks);
} where
  after : Bool → Forwarded
  after b = renew_if b (record f { text = with_written f.text count }) now

  request_stays : (b : Bool) → (after b).request ≡ f.request
  request_stays true = refl
  request_stays false = refl

  terms_stay : (b : Bool) → (after b).state.terms ≡ f.state.terms
  terms_stay true = refl
  terms_stay false = refl

pub came_is : (request : Request) (f : Forwarded) (bytes : List ℕ) (now : ℕ) → IsForwarded request f
    → IsForwarded request (with_bytes f bytes now)
came_is request f bytes now is =
    renewed_is (not (is_empty bytes)) request (record f { came = f.came ++ bytes }) now
    (record { read_is = is.read_is; text_is = is.text_is; idempotent_is = is.idempotent_is; asks_is = is.asks_is })

-- what a step leads to is the request still
abbrev pub IsOf : Request → Step → Type 0
IsOf request (step.GoesOn forwarded) = IsForwarded request forwarded
IsOf request (step.Again dialing) = IsDialed request dialing
IsOf request (step.Over outcome) = ⊤

pub again_is : (request : Request) (f : Forwarded) (now : ℕ) → IsForwarded request f → IsDialed request (again f now)
again_is request f now is = record { read_is = is.read_is; text_is = is.text_is; idempotent_is = is.idempotent_is; asks_is = is.asks_is }

pub receives_is : (request : Request) (f : Forwarded) (bytes : List ℕ) (now : ℕ) (next : Step) → IsForwarded request f
    → Receives f bytes now next → IsOf request next
receives_is request f bytes now (step.GoesOn next) sent is = subst (IsForwarded request) (sym is.0) (came_is request f bytes now sent)
receives_is request f bytes now (step.Again next) sent is = absurd is
receives_is request f bytes now (step.Over outcome) sent is = tt

pub ends_is : (request : Request) (f : Forwarded) (now : ℕ) (next : Step) → IsForwarded request f
    → Ends f now next → IsOf request next
ends_is request f now (step.GoesOn next) sent is = absurd is
ends_is request f now (step.Again next) sent is = subst (IsDialed request) (sym is.1) (again_is request f now sent)
ends_is request f now (step.Over outcome) sent is = tt

pub fails_is : (request : Request) (f : Forwarded) (now : ℕ) (next : Step) → IsForwarded request f
    → next ≡ failed f now → IsOf request next
fails_is request f now next sent is =
    subst (IsOf request) (sym is) (go (may_repeat f) (refused fault.ConnectFailed (health_of f.came))) where
      go : (b : Bool) (outcome : Outcome) → IsOf request (cond b (step.Again (again f now)) (step.Over outcome))
      go true outcome = again_is request f now sent
      go false outcome = tt

pub looks_is : (request : Request) (f : Forwarded) (now : ℕ) → IsForwarded request f → IsOf request (looked f now)
looks_is request f now sent =
    go (nat_le f.state.deadlines.until now) (refused fault.ResponseTimeout (late_health f now)) where
      go : (b : Bool) (outcome : Outcome) → IsOf request (cond b (step.Over outcome) (step.GoesOn f))
      go true outcome = tt
      go false outcome = sent

replied : (request : Request) (outcome : Outcome) (told : Given) (now : ℕ) (client : Client) (reply : Option Reply) (new : Client)
    → Replies request outcome.answer told now client reply new → is_inside new.stage ≡ false
replied request outcome told now client None new is = absurd is
replied request outcome told now client (Some reply) new is =
    ap (λ (n : Client). is_inside n.stage) is.2 ∙ replied_outside reply.answer now client

-- what follows from a step is sound
pub follows_sound : (request : Request) (next : Step) (now : ℕ) (client : Client) (told : EndpointStep) (reply : Option Reply)
    (new : Sides) → is_inside client.stage ≡ true → IsOf request next → Follows request next now client told reply new
    → IsSound new.client new.endpoint
follows_sound request (step.GoesOn f) now client told reply new inside of is =
    subst (λ (n : Sides). IsSound n.client n.endpoint) (sym is.2) (inside, of)
follows_sound request (step.Again d) now client told reply new inside of is =
    subst (λ (n : Sides). IsSound n.client n.endpoint) (sym is.2) (inside, of)
follows_sound request (step.Over outcome) now client told reply new inside of is =
    subst (IsSound new.client) (sym is.1) (replied request outcome (given_in told) now client reply new.client is.2)

-- a request that enters is inside
pub entered_sound : (request : Option Request) (sides : Sides) → IsSound sides.client sides.endpoint
    → IsSound (entered_as request sides).client (entered_as request sides).endpoint
entered_sound None sides sound = sound
entered_sound (Some request) sides sound = refl

-- a request that is dialled for at another endpoint is so with its text
elsewhere_sound : (unsent does : Bool) (request : Request) (dialing : Dialing) (route : Route) (now : ℕ) (client : Client)
    (new : EndpointSide) → IsSound client (side.Dialing request dialing)
    → DialsElsewhere unsent does request dialing route now new → IsSound client new
elsewhere_sound true true request dialing route now client new sound is =
    subst (IsSound client) (sym is)
    (sound.0, record { read_is = sound.1.read_is; text_is = refl; idempotent_is = sound.1.idempotent_is; asks_is = sound.1.asks_is })
elsewhere_sound true false request dialing route now client new sound is = subst (IsSound client) (sym is) sound
elsewhere_sound false does request dialing route now client new sound is = subst (IsSound client) (sym is.1) sound

-- a request is forwarded as one that asks for an upgrade only if it does
both_hold : (a b : Bool) → (a && b) ≡ true → b ≡ true
both_hold true b is = is
both_hold false b is = absurd (cc)

asks_on : (request : Request) (route : Route) → (terms_on request route).asks_for_upgrade ≡ true
    → asks_for_upgrade request ≡ true
asks_on request route is = both_hold route.upgrades (asks_for_upgrade request) is

-- a request that entered is dialled for with its text
pub dials_sound : (endpoint : EndpointSide) (route : Route) (now : ℕ) (does : Bool) (client : Client) (new : EndpointSide)
    → IsSound client endpoint → Dials endpoint route now does new → IsSound client new
dials_sound side.NoRequest route now does client new sound is = subst (IsSound client) (sym is.1) sound
dials_sound (side.Entered request) route now true client new sound is =
    subst (IsSound client) (sym is) (sound, record { read_is = refl; text_is = refl; idempotent_is = refl; asks_is = asks_on request route })
dials_sound (side.Entered request) route now false client new sound is = subst (IsSound client) (sym is) sound
dials_sound (side.Dialing request dialing) route now does client new sound is =
    elsewhere_sound (may_go_elsewhere dialing now) does request dialing route now client new sound is
dials_sound (side.Forwarding request f) route now does client new sound is = subst (IsSound client) (sym is.1) sound
dials_sound (side.Streaming request s) route now does client new sound is = subst (IsSound client) (sym is.1) sound

-- a connection begins with the text of its request
pub begins_sound : (endpoint : EndpointSide) (taken is_kept : Bool) (now : ℕ) (client : Client) → IsSound client endpoint
    → IsSound client (begins taken is_kept now endpoint)
begins_sound side.NoRequest true is_kept now client sound = sound
begins_sound (side.Entered request) true is_kept now client sound = sound
begins_sound (side.Dialing request dialing) true is_kept now client sound =
    (sound.0, record { read_is = sound.1.read_is; text_is = sound.1.text_is; idempotent_is = sound.1.idempotent_is; asks_is = sound.1.asks_is })
begins_sound (side.Forwarding request f) true is_kept now client sound = sound
begins_sound (side.Streaming request s) true is_kept now client sound = sound
begins_sound endpoint false is_kept now client sound = sound

-- a request that is forwarded stays the same
pub changed_sound : (change : Forwarded → Forwarded) (endpoint : EndpointSide) (client : Client)
    → ((request : Request) (f : Forwarded) → IsForwarded request f → IsForwarded request (change f))
    → IsSound client endpoint → IsSound client (on_forwarded change endpoint)
changed_sound change side.NoRequest client stays sound = sound
changed_sound change (side.Entered request) client stays sound = sound
changed_sound change (side.Dialing request dialing) client stays sound = sound
changed_sound change (side.Forwarding request f) client stays sound = (sound.0, stays request f sound.1)
changed_sound change (side.Streaming request s) client stays sound = (sound.0, stays request s.forwarded sound.1)

pub unread_is : (now : ℕ) (request : Request) (f : Forwarded) → IsForwarded request f → IsForwarded request (unread f now)
unread_is now request f is = record { read_is = is.read_is; text_is = is.text_is; idempotent_is = is.idempotent_is; asks_is = is.asks_is }

pub ending_is : (request : Request) (f : Forwarded) → IsForwarded request f → IsForwarded request (with_end f)
ending_is request f is = record { read_is = is.read_is; text_is = is.text_is; idempotent_is = is.idempotent_is; asks_is = is.asks_is }

pub stays_sound : (client : Client) (endpoint : EndpointSide) (new : Sides) → IsSound client endpoint
    → new ≡ record { client = client; endpoint = endpoint } → IsSound new.client new.endpoint
stays_sound client endpoint new sound is = subst (λ (n : Sides). IsSound n.client n.endpoint) (sym is) sound

-- the request that entered is refused
pub refuses_sound : (endpoint : EndpointSide) (now : ℕ) (client : Client) (told : Bool) (reply : Option Reply) (new : Sides)
    → IsSound client endpoint → RefusesEntered endpoint now client told reply new → IsSound new.client new.endpoint
refuses_sound side.NoRequest now client told reply new sound is = stays_sound client side.NoRequest new sound is.2
refuses_sound (side.Entered request) now client told None new sound is = absurd is
refuses_sound (side.Entered request) now client told (Some reply) new sound is =
    subst (λ (n : Sides). IsSound n.client n.endpoint) (sym is.3) (replied_outside reply.answer now client)
refuses_sound (side.Dialing request dialing) now client told reply new sound is =
    stays_sound client (side.Dialing request dialing) new sound is.2
refuses_sound (side.Forwarding request f) now client told reply new sound is =
    stays_sound client (side.Forwarding request f) new sound is.2
refuses_sound (side.Streaming request s) now client told reply new sound is =
    stays_sound client (side.Streaming request s) new sound is.2

-- an event on the connection of a request that is forwarded
pub forwarded_sound : (Steps : Forwarded → Step → Type 0) (endpoint : EndpointSide) (now : ℕ) (client : Client)
    (told : EndpointStep) (reply : Option Reply) (new : Sides)
    → ((request : Request) (f : Forwarded) (next : Step) → IsForwarded request f → Steps f next → IsOf request next)
    → IsSound client endpoint → AtForwarded Steps endpoint now client told reply new → IsSound new.client new.endpoint
forwarded_sound Steps side.NoRequest now client told reply new stays sound is =
    stays_sound client side.NoRequest new sound is.2
forwarded_sound Steps (side.Entered request) now client told reply new stays sound is =
    stays_sound client (side.Entered request) new sound is.2
forwarded_sound Steps (side.Dialing request dialing) now client told reply new stays sound is =
    stays_sound client (side.Dialing request dialing) new sound is.2
forwarded_sound Steps (side.Forwarding request f) now client told reply new stays sound is =
    follows_sound request is.0 now client told reply new sound.0 (stays request f is.0 sound.1 is.1) is.2
forwarded_sound Steps (side.Streaming request s) now client told reply new stays sound is = absurd is

-- a dial ends
pub dialing_sound : (outcome : Dialing → Outcome) (endpoint : EndpointSide) (now : ℕ) (client : Client)
    (told : EndpointStep) (reply : Option Reply) (new : Sides) → IsSound client endpoint
    → AtDialing outcome endpoint now client told reply new → IsSound new.client new.endpoint
dialing_sound outcome side.NoRequest now client told reply new sound is =
    stays_sound client side.NoRequest new sound is.2
dialing_sound outcome (side.Entered request) now client told reply new sound is =
    stays_sound client (side.Entered request) new sound is.2
dialing_sound outcome (side.Dialing request dialing) now client told reply new sound is =
    follows_sound request (step.Over (outcome dialing)) now client told reply new sound.0 tt is
dialing_sound outcome (side.Forwarding request f) now client told reply new sound is =
    stays_sound client (side.Forwarding request f) new sound is.2
dialing_sound outcome (side.Streaming request s) now client told reply new sound is =
    stays_sound client (side.Streaming request s) new sound is.2

-- a moment
pub looks_sound : (endpoint : EndpointSide) (now : ℕ) (client : Client) (told : EndpointStep) (reply : Option Reply)
    (new : Sides) → IsSound client endpoint → Looks endpoint now client told reply new → IsSound new.client new.endpoint
looks_sound side.NoRequest now client told reply new sound is = stays_sound client side.NoRequest new sound is.2
looks_sound (side.Entered request) now client told reply new sound is =
    stays_sound client (side.Entered request) new sound is.2
looks_sound (side.Dialing request dialing) now client told reply new sound is =
    go (nat_le dialing.deadlines.until now) is where
      go : (b : Bool) → LooksDialing b request dialing now client told reply new → IsSound new.client new.endpoint
      go true is = follows_sound request (step.Over (dial_failed dial.TimedOut)) now client told reply new sound.0 tt is
      go false is = stays_sound client (side.Dialing request dialing) new sound is.2
looks_sound (side.Forwarding request f) now client told reply new sound is =
    follows_sound request (looked f now) now client told reply new sound.0 (looks_is request f now sound.1) is
looks_sound (side.Streaming request s) now client told reply new sound is = absurd is

-- the request is given up
pub gives_up_sound : (why : GivingUp) (endpoint : EndpointSide) (now : ℕ) (client : Client) (told : EndpointStep)
    (reply : Option Reply) (new : Sides) → IsSound client endpoint → GivesUp why endpoint now client told reply new
    → IsSound new.client new.endpoint
gives_up_sound why side.NoRequest now client told reply new sound is = stays_sound client side.NoRequest new sound is.2
gives_up_sound why (side.Entered request) now client told reply new sound is =
    stays_sound client (side.Entered request) new sound is.2
gives_up_sound why (side.Dialing request dialing) now client told reply new sound is =
    follows_sound request (step.Over (refused (of_giving_up why) health.Unknown)) now client told reply new sound.0 tt is
gives_up_sound why (side.Forwarding request f) now client told reply new sound is =
    follows_sound request (step.Over (refused (of_giving_up why) (health_of f.came))) now client told reply new sound.0 tt is
gives_up_sound why (side.Streaming request s) now client told reply new sound is = absurd is
