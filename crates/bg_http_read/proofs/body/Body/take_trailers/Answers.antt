use Rattle.std.proofs.Common.{◌++◌, length, refl, subst, sym}
use Rattle.bg_http_read.specs.BodyFaults.{malformed}
use Rattle.bg_http_read.specs.Bodies.{FailsOn, TakesOn}
use Rattle.bg_http_read.specs.declared.body.BodyStage.TheVariants as stage
use Rattle.bg_http_read.proofs.DataSteps.{takes_trailers, takes_no_trailers}
use Rattle.bg_http_read.proofs.TrailersFound.{malformed_trailers_more}
use Rattle.bg_http_read.proofs.body.Body.take_trailers.Goals as goal

pub returns-in-Ok-Some-clause-taken : goal.returns-in-Ok-Some-clause-taken
returns-in-Ok-Some-clause-taken c =
    let limit = c.args.self.now.limit in
    let done = c.args.self.now.bytes.items in
    let bytes = c.args.bytes.now in
    let fits = rw c.in-Ok-Some.field-0-is at c.in-Ok-Some.ensures.within in
    let found = rw c.in-Ok-Some.field-0-is at c.in-Ok-Some.ensures.trailers in (
      refl,
      subst (λ s. TakesOn limit s done stage.Whole done bytes c.in-Ok-Some.count) (sym c.requires.stage)
          (takes_trailers limit done bytes c.in-Ok-Some.count fits.0 fits.1 found),
    )

pub returns-in-Ok-None-clause-taken : goal.returns-in-Ok-None-clause-taken
returns-in-Ok-None-clause-taken c =
    let limit = c.args.self.now.limit in
    let done = c.args.self.now.bytes.items in
    let bytes = c.args.bytes.now in
    let none = rw c.in-Ok-None.field-0-is at c.in-Ok-None.ensures.none_yet in (
      refl,
      subst (λ s. TakesOn limit s done s done bytes 0) (sym c.requires.stage)
          (takes_no_trailers limit done bytes none),
    )

pub returns-in-Err-clause-refused : goal.returns-in-Err-clause-refused
returns-in-Err-clause-refused c more =
    let limit = c.args.self.now.limit in
    let done = c.args.self.now.bytes.items in
    let bytes = c.args.bytes.now in
    subst (λ s. FailsOn malformed limit s (length done) (bytes ++ more)) (sym c.requires.stage)
    (malformed_trailers_more bytes more c.in-Err.ensures.bad)
