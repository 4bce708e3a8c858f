use Rattle.std.proofs.Common.{◌++◌, ◌<◌, ◌≤◌, ◌+◌, length, drop, rules, refl, arith, subst, sym}
use Rattle.bg_http_read.specs.BodyFaults.{malformed, large}
use Rattle.bg_http_read.specs.Bodies.{FailsOn, TakesOn}
use Rattle.bg_http_read.specs.Chunks.{ReadsLine}
use Rattle.bg_http_read.specs.declared.body.BodyStage.TheVariants as stage
use Rattle.bg_http_read.proofs.LineSteps.{takes_line, takes_end, takes_no_line, never_without_line, large_by_line}
use Rattle.bg_http_read.proofs.body.Body.take_line.Goals as goal

pub returns-in-Err-clause-refused : goal.returns-in-Err-clause-refused
returns-in-Err-clause-refused c more =
    let limit = c.args.self.now.limit in
    let done = c.args.self.now.bytes.items in
    let bytes = c.args.bytes.now in
    subst (λ s. FailsOn malformed limit s (length done) (bytes ++ more)) (sym c.requires.stage)
    (never_without_line limit (length done) bytes more c.in-Err.ensures.bad
    (omega (arith, c.requires.within)))

pub returns-in_default-clause-taken : goal.returns-in_default-clause-taken
returns-in_default-clause-taken c =
    let limit = c.args.self.now.limit in
    let done = c.args.self.now.bytes.items in
    let bytes = c.args.bytes.now in (
      refl,
      subst (λ s. TakesOn limit s done s done bytes 0) (sym c.requires.stage)
          (takes_no_line limit done bytes (search rules) (omega (arith, c.requires.within))),
    )

pub returns-then-size-self-clause-refused : goal.returns-then-size-self-clause-refused
returns-then-size-self-clause-refused c more =
    let limit = c.args.self.now.limit in
    let done = c.args.self.now.bytes.items in
    let bytes = c.args.bytes.now in
    let line : ReadsLine bytes c.in-Some.size (drop c.in-Some.count bytes) = search rules in
    let above : limit < length done + c.in-Some.size = omega (arith, c.if-size-self.true, c.len.ensures) in
    subst (λ s. FailsOn large limit s (length done) (bytes ++ more)) (sym c.requires.stage)
    (large_by_line limit (length done) bytes more c.in-Some.count c.in-Some.size line above
    (omega (arith, c.requires.within)))

pub returns-then-size-eq0-clause-taken : goal.returns-then-size-eq0-clause-taken
returns-then-size-eq0-clause-taken c =
    let limit = c.args.self.now.limit in
    let done = c.args.self.now.bytes.items in
    let bytes = c.args.bytes.now in
    let line : ReadsLine bytes c.in-Some.size (drop c.in-Some.count bytes) = search rules in (
      refl,
      subst (λ s. TakesOn limit s done stage.Trailers done bytes c.in-Some.count) (sym c.requires.stage)
          (takes_end limit done bytes c.in-Some.count (search rules) (search rules)
          (subst (λ n. ReadsLine bytes n (drop c.in-Some.count bytes)) c.if-size-eq0.true line)
          (omega (arith, c.requires.within))),
    )

pub returns-clause-taken : goal.returns-clause-taken
returns-clause-taken c =
    let limit = c.args.self.now.limit in
    let done = c.args.self.now.bytes.items in
    let bytes = c.args.bytes.now in
    let line : ReadsLine bytes c.in-Some.size (drop c.in-Some.count bytes) = search rules in
    let within : length done + c.in-Some.size ≤ limit = omega (arith, c.if-size-self.false, c.len.ensures, c.requires.within) in (
      refl,
      subst (λ s. TakesOn limit s done (stage.Data c.in-Some.size) done bytes c.in-Some.count) (sym c.requires.stage)
          (takes_line limit done bytes c.in-Some.count c.in-Some.size (search rules) (search rules) line (search rules) within),
    )
