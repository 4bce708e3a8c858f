-- The next bytes of an input that are taken.
use Rattle.std.specs.Prelude.{◌≡◌, ◌⊎◌, ℕ, ◌<◌, ◌≤◌, false, List, [], ◌++◌, length, take, if◌then◌else◌}
use Rattle.bg_http_read.specs.Bodies.{is_whole}
use Rattle.bg_http_read.specs.BodyFaults.{cut}
use Rattle.bg_http_read.specs.declared.body.BodyStage.{BodyStage}
use Rattle.bg_relay.specs.Places.{FailsHere, StandsAt}
use Rattle.bg_relay.specs.declared.framing.Framing.{Framing}
use Rattle.bg_relay.specs.declared.steps.Step.{Step}

-- from one stage these bytes of an input lead to the other one, and they have these bytes of the body
abbrev pub LeadsTo : BodyStage → BodyStage → List ℕ → List ℕ → Type 0
LeadsTo before next taken bytes =
    (named : Framing) (input body : List ℕ) → StandsAt named before input body
    → StandsAt named next (input ++ taken) (body ++ bytes)

-- the bytes of the body that a step takes
abbrev pub data_of : List ℕ → Step → List ℕ
data_of bytes step = if step.is_data then take step.count bytes else []

-- the body is not whole, and the step takes the first bytes, at least one, and at most so many bytes of the body
pub record IsStep (stage : BodyStage) (bytes : List ℕ) (room : ℕ) (step : Step) : Type 0 where
  pub goes_on : is_whole stage ≡ false
  pub some : 0 < step.count
  pub fits : step.count ≤ length bytes
  pub within : length (data_of bytes step) ≤ room
  pub leads : LeadsTo stage step.next (take step.count bytes) (data_of bytes step)

-- the bytes end before the next part of the body's framing, or there are none
abbrev pub Waits : BodyStage → List ℕ → Type 0
Waits stage bytes = (bytes ≡ []) ⊎ FailsHere cut stage bytes
