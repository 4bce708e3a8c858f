-- What a step of a request whose response is passed on makes of the two sides.
use Rattle.std.proofs.Common.{◌≡◌, ◌∙◌, ℕ, Bool, true, false, cond, refl, sym, ap, subst, Option, Some, None}
use Rattle.std.specs.Prelude.{vec_capacity}
use Rattle.bg_http.specs.declared.persistence.Persistence.{Persistence}
use Rattle.bg_http.specs.declared.request.Request.{Request}
use Rattle.bg_client_side.specs.Clients.{Client, cut_off, left, may_pass_on, passed_at, passing_on}
use Rattle.bg_client_side.specs.Stages.{is_inside, is_passing_on}
use Rattle.bg_client_side.specs.declared.stage.Stage.{Stage}
use Rattle.bg_client_side.specs.declared.stage.Stage.TheVariants as stage
use Rattle.bg_endpoint_side.specs.declared.streamed_step.StreamedStep.{StreamedStep}
use Rattle.bg_endpoint_side.specs.declared.streamed_step.StreamedStep.TheVariants as streamed
use Rattle.bg_both_sides.proofs.ClientLemmas.{replied_outside}
use Rattle.bg_both_sides.proofs.StreamedLemmas.{OnStep}
use Rattle.bg_both_sides.specs.Answers.{says}
use Rattle.bg_both_sides.specs.Sides.{Sides}
use Rattle.bg_both_sides.specs.StreamedEvents.{CutsIf, FollowsStreamed, Telling, begun_by, shown}
use Rattle.bg_both_sides.specs.declared.endpoint_side.EndpointSide.{EndpointSide}
use Rattle.bg_both_sides.specs.declared.endpoint_side.EndpointSide.TheVariants as side
use Rattle.bg_both_sides.specs.declared.endpoint_step.EndpointStep.{EndpointStep}

-- THE ENDPOINT'S SIDE

-- what is said of the request that goes on, of the one that is sent again, and of none, is so afterwards
pub follows_end : (P : EndpointSide → Type 0) (request : Request) (next : StreamedStep) (now : ℕ) (client : Client)
    (told : EndpointStep) (telling : Telling) (new : Sides)
    → OnStep (λ s. P (side.Streaming request s)) (λ d. P (side.Dialing request d)) next → P side.NoRequest
    → FollowsStreamed request next now client told telling new → P new.endpoint
follows_end P request (streamed.GoesOn s) now client told telling new on none is = subst P (sym is.1) on
follows_end P request (streamed.Again d) now client told telling new on none is =
    subst P (sym (ap (λ (n : Sides). n.endpoint) is.2)) on
follows_end P request (streamed.Whole answer) now client told telling new on none is = subst P (sym is.0) none
follows_end P request (streamed.Refused why told_of) now client told telling new on none is = subst P (sym is.2.1) none
follows_end P request (streamed.Cut why told_of) now client told telling new on none is =
    go (is_passing_on client.stage) is where
      go : (b : Bool) → CutsIf b request why told_of now client told telling new → P new.endpoint
      go true is = subst P (sym (ap (λ (n : Sides). n.endpoint) is.2)) none
      go false is = subst P (sym is.2.1) none

-- THE CLIENT'S SIDE

begun_inside : (head : Option Persistence) (now : ℕ) (c : Client) → is_inside c.stage ≡ true
    → is_inside (begun_by head now c).stage ≡ true
begun_inside None now c inside = inside
begun_inside (Some persistence) now c inside = go (may_pass_on c) where
  go : (b : Bool) → is_inside (cond b (passing_on persistence now c) c).stage ≡ true
  go true = refl
  go false = inside

pub passed_inside : (s : Stage) (count : ℕ) (waits : Bool) (now : ℕ) (c : Client) → is_inside c.stage ≡ true
    → is_inside (passed_at s count waits now c).stage ≡ true
passed_inside stage.Idle count waits now c inside = inside
passed_inside stage.Reading count waits now c inside = inside
passed_inside stage.Continuing count waits now c inside = inside
passed_inside (stage.Waiting request) count waits now c inside = inside
passed_inside stage.Inside count waits now c inside = inside
passed_inside (stage.PassingOn p) count waits now c inside = refl
passed_inside (stage.Refused named) count waits now c inside = inside
passed_inside (stage.Answering answering) count waits now c inside = inside
passed_inside (stage.Lingering lingering) count waits now c inside = inside
passed_inside stage.Left count waits now c inside = inside

shown_inside : (head : Option Persistence) (waits : Bool) (now : ℕ) (c : Client) → is_inside c.stage ≡ true
    → is_inside (shown head waits now c).stage ≡ true
shown_inside head waits now c inside =
    passed_inside (begun_by head now c).stage 0 waits now (begun_by head now c) (begun_inside head now c inside)

cut_outside : (c : Client) → is_passing_on c.stage ≡ true → is_inside (cut_off c).stage ≡ false
cut_outside c passes = go (is_passing_on c.stage) passes where
  go : (b : Bool) → b ≡ true → is_inside (cond b (left c) c).stage ≡ false
  go true is = refl
  go false is = absurd (cc)

-- a request is at an endpoint
abbrev pub has_request : EndpointSide → Bool
has_request side.NoRequest = false
has_request (side.Entered request) = true
has_request (side.Dialing request d) = true
has_request (side.Forwarding request f) = true
has_request (side.Streaming request s) = true

at_end : (c : Client) (e : EndpointSide) (b : Bool) → is_inside c.stage ≡ b → has_request e ≡ b → is_inside c.stage ≡ has_request e
at_end c e b inside has = inside ∙ sym has

-- exactly while a request is at an endpoint, the client has one inside
pub follows_inside : (request : Request) (next : StreamedStep) (now : ℕ) (client : Client) (told : EndpointStep)
    (telling : Telling) (new : Sides) → is_inside client.stage ≡ true
    → FollowsStreamed request next now client told telling new → is_inside new.client.stage ≡ has_request new.endpoint
follows_inside request (streamed.GoesOn s) now client told telling new inside is =
    at_end new.client new.endpoint true
    (ap (λ (n : Client). is_inside n.stage) is.2.new_is ∙ shown_inside is.2.head is.2.waits now client inside)
    (ap has_request is.1)
follows_inside request (streamed.Again d) now client told telling new inside is =
    at_end new.client new.endpoint true (ap (λ (n : Sides). is_inside n.client.stage) is.2 ∙ inside)
    (ap (λ (n : Sides). has_request n.endpoint) is.2)
follows_inside request (streamed.Whole answer) now client told telling new inside is =
    at_end new.client new.endpoint false
    (ap (λ (n : Client). is_inside n.stage) is.1.new_is ∙ replied_outside (says answer.rest.items (vec_capacity answer.rest) answer.persistence) now client)
    (ap has_request is.0)
follows_inside request (streamed.Refused why told_of) now client told telling new inside is =
    at_end new.client new.endpoint false
    (ap (λ (n : Client). is_inside n.stage) is.2.2.2 ∙ replied_outside is.0.answer now client) (ap has_request is.2.1)
follows_inside request (streamed.Cut why told_of) now client told telling new inside is =
    go (is_passing_on client.stage) refl is where
      go : (b : Bool) → is_passing_on client.stage ≡ b → CutsIf b request why told_of now client told telling new
          → is_inside new.client.stage ≡ has_request new.endpoint
      go true passes is =
          at_end new.client new.endpoint false
          (ap (λ (n : Sides). is_inside n.client.stage) is.2 ∙ cut_outside client passes)
          (ap (λ (n : Sides). has_request n.endpoint) is.2)
      go false passes is =
          at_end new.client new.endpoint false
          (ap (λ (n : Client). is_inside n.stage) is.2.2.2 ∙ replied_outside is.0.answer now client) (ap has_request is.2.1)
