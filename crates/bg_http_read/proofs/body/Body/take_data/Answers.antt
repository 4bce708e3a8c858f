use Rattle.std.proofs.Common.{subst, sym, refl, ◌-◌}
use Rattle.bg_http_read.specs.Bodies.{TakesOn}
use Rattle.bg_http_read.specs.declared.body.BodyStage.TheVariants as stage
use Rattle.bg_http_read.proofs.DataSteps.{takes_data}
use Rattle.bg_http_read.proofs.body.Body.take_data.Goals as goal

pub returns-clause-taken : goal.returns-clause-taken
returns-clause-taken c =
    let limit = c.args.self.now.limit in
    let done = c.args.self.now.bytes.items in
    let bytes = c.args.bytes.now in
    let left = c.args.left in
    let count = c.min-count.result in (
      refl,
      subst (λ s. TakesOn limit s done (stage.Data (left - count)) c.extend_from_slice.new.self.items bytes count)
          (sym c.requires.stage)
          (subst (λ now. TakesOn limit (stage.Data left) done (stage.Data (left - count)) now bytes count)
          (sym c.in_ok-extend_from_slice.ensures.items) (takes_data limit left count done bytes c.requires.some c.min-count.ensures)),
    )
