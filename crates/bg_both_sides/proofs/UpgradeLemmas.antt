-- How both connections are handed over after an upgrade.
use Rattle.std.proofs.Common.{◌≡◌, ℕ, true, List, [], refl, sym, ap, subst, Option, Some, None}
use Rattle.bg_http.specs.declared.persistence.Persistence.TheVariants.{Close}
use Rattle.bg_http.specs.declared.request.Request.{Request}
use Rattle.bg_client_side.specs.Clients.{Client, answered, failed_at}
use Rattle.bg_client_side.specs.Runs.{Runs}
use Rattle.bg_client_side.specs.Stages.{has_left, is_inside}
use Rattle.bg_client_side.specs.declared.stage.Stage.{Stage}
use Rattle.bg_client_side.specs.declared.stage.Stage.TheVariants as stage
use Rattle.bg_both_sides.proofs.AnswerRuns.{answer_runs, inside_awaits}
use Rattle.bg_both_sides.proofs.ClientLemmas.{replied_outside}
use Rattle.bg_both_sides.specs.Answers.{lacks, unwritten, with_answer}
use Rattle.bg_both_sides.specs.Runs.{upgrade_calls}
use Rattle.bg_both_sides.specs.Sides.{IsSound, Sides, request_of}
use Rattle.bg_both_sides.specs.UpgradeEvents.{AcceptsUpgrade}
use Rattle.bg_both_sides.specs.declared.endpoint_side.EndpointSide.{EndpointSide}
use Rattle.bg_both_sides.specs.declared.endpoint_side.EndpointSide.TheVariants as side
use Rattle.bg_both_sides.specs.declared.upgrading.Upgraded.{Upgraded}

-- a request at an endpoint is inside
pub inside_of : (client : Client) (e : EndpointSide) (request : Request) → IsSound client e → request_of e ≡ Some request
    → is_inside client.stage ≡ true
inside_of client side.NoRequest request sound is = absurd (cc)
inside_of client (side.Entered other) request sound is = sound
inside_of client (side.Dialing other d) request sound is = sound.0
inside_of client (side.Forwarding other f) request sound is = sound.0
inside_of client (side.Streaming other s) request sound is = sound.0

-- the calls of the client's connection by which it leaves
pub accepts_runs : (old : Sides) (bytes : List ℕ) (now weight : ℕ) (upgraded : Option Upgraded) (new : Sides)
    → IsSound old.client old.endpoint → AcceptsUpgrade old bytes now weight upgraded new
    → Runs old.client (upgrade_calls weight upgraded now) new.client × IsSound new.client new.endpoint
accepts_runs old bytes now weight None new sound is =
    (sym (ap (λ (n : Sides). n.client) is), subst (λ (n : Sides). IsSound n.client n.endpoint) (sym is) sound)
accepts_runs old bytes now weight (Some upgraded) new sound is =
    let awaits = inside_awaits old.client (inside_of old.client old.endpoint is.0.request sound is.0.asked.request_is) in (
      answer_runs true (lacks weight) now old.client new.client awaits.0 awaits.1 (ap (λ (n : Sides). n.client) is.1),
      subst (λ (n : Sides). IsSound n.client n.endpoint) (sym is.1) (replied_outside (lacks weight) now old.client),
    )

-- what holds of the request still, and of no request, holds after both connections were handed over
pub after_upgrade : (P : EndpointSide → Type 0) (old : Sides) (bytes : List ℕ) (now weight : ℕ) (upgraded : Option Upgraded)
    (new : Sides) → P old.endpoint → P side.NoRequest → AcceptsUpgrade old bytes now weight upgraded new → P new.endpoint
after_upgrade P old bytes now weight None new before none is = subst (λ (n : Sides). P n.endpoint) (sym is) before
after_upgrade P old bytes now weight (Some upgraded) new before none is =
    subst (λ (n : Sides). P n.endpoint) (sym is.1) none

-- a connection whose request is inside leaves without an answer
pub leaves : (c : Client) (weight now : ℕ) → is_inside c.stage ≡ true → has_left (with_answer (lacks weight) now c).stage ≡ true
leaves c weight now inside = go c.stage refl inside where
  go : (s : Stage) → c.stage ≡ s → is_inside s ≡ true
      → has_left (answered (unwritten [] weight) Close now (failed_at s c)).stage ≡ true
  go stage.Idle at_is inside = absurd (cc)
  go stage.Reading at_is inside = absurd (cc)
  go stage.Continuing at_is inside = absurd (cc)
  go (stage.Waiting request) at_is inside = absurd (cc)
  go stage.Inside at_is inside = rw at_is refl
  go (stage.PassingOn passing) at_is inside = rw at_is refl
  go (stage.Refused named) at_is inside = absurd (cc)
  go (stage.Answering answering) at_is inside = absurd (cc)
  go (stage.Lingering lingering) at_is inside = absurd (cc)
  go stage.Left at_is inside = absurd (cc)
