-- What bytes of an endpoint make of the request of a client.
use Rattle.std.specs.Prelude.{◌≡◌, ℕ, true, false, List, Option, Some}
use Rattle.bg_endpoint_side.specs.Forwarding.{Receives}
use Rattle.bg_endpoint_side.specs.StreamedSteps.{ReceivesStreamed}
use Rattle.bg_both_sides.specs.Answers.{Reply}
use Rattle.bg_both_sides.specs.EndpointEvents.{AtForwarded}
use Rattle.bg_both_sides.specs.Sides.{Sides, is_streaming}
use Rattle.bg_both_sides.specs.StreamedEvents.{AtStreamed, Telling}
use Rattle.bg_both_sides.specs.UpgradeEvents.{AcceptsUpgrade}
use Rattle.bg_both_sides.specs.declared.endpoint_step.EndpointStep.{EndpointStep}
use Rattle.bg_event_loop.specs.declared.endpoint.Progress.{Progress}
use Rattle.bg_event_loop.specs.declared.endpoint.Progress.TheVariants as progress

-- bytes come to the request of a client, as bg_both_sides has it
abbrev pub Receiving : Sides → List ℕ → ℕ → EndpointStep → Sides → Type 0
Receiving old bytes now told new =
    (is_streaming old.endpoint ≡ false → (reply : Option Reply)
    × AtForwarded (λ f step. Receives f bytes now step) old.endpoint now old.client told reply new)
    × (is_streaming old.endpoint ≡ true → (telling : Telling)
    × AtStreamed (λ s step. ReceivesStreamed s bytes now step) old.endpoint now old.client told telling new)

-- the endpoint accepts an upgrade with the bytes; otherwise the request receives them
abbrev pub TakesBytes : Sides → List ℕ → ℕ → Progress → Sides → Type 0
TakesBytes old bytes now (progress.Step told) new = Receiving old bytes now told new
TakesBytes old bytes now (progress.Upgraded upgraded) new =
    (weight : ℕ) × AcceptsUpgrade old bytes now weight (Some upgraded) new
