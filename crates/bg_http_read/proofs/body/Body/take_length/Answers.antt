use Rattle.std.proofs.Common.{subst, sym, refl, ◌-◌}
use Rattle.bg_http_read.specs.Bodies.{TakesOn}
use Rattle.bg_http_read.specs.declared.body.BodyStage.TheVariants as stage
use Rattle.bg_http_read.proofs.DataSteps.{takes_length}
use Rattle.bg_http_read.proofs.body.Body.take_length.Goals as goal

pub returns-clause-taken : goal.returns-clause-taken
returns-clause-taken c =
    let limit = c.args.self.now.limit in
    let done = c.args.self.now.bytes.items in
    let bytes = c.args.bytes.now in
    let left = c.args.left in
    let count = c.min-count.result in (
      refl,
      subst (λ s. TakesOn limit s done (stage.Length (left - count)) c.extend_from_slice.new.self.items bytes count)
          (sym c.requires.stage)
          (subst (λ now. TakesOn limit (stage.Length left) done (stage.Length (left - count)) now bytes count)
          (sym c.in_ok-extend_from_slice.ensures.items) (takes_length limit left count done bytes c.min-count.ensures)),
    )
