use Rattle.std.proofs.Common.{◌≡◌, refl, subst, sym, rules, get_or}
use Rattle.bg_http_read.specs.Bodies.{TakesOn}
use Rattle.bg_http_read.proofs.DataSteps.{takes_no_line_end, nothing_there, cr_alone}
use Rattle.bg_http_read.proofs.body.Body.take_line_end.Goals as goal

pub returns-in-empty-clause-taken : goal.returns-in-empty-clause-taken
returns-in-empty-clause-taken c =
    let limit = c.args.self.now.limit in
    let done = c.args.self.now.bytes.items in
    let bytes = c.args.bytes.now in (
      refl,
      subst (λ s. TakesOn limit s done s done bytes 0) (sym c.requires.stage)
          (takes_no_line_end limit done bytes (nothing_there bytes c.in-empty.len_below)),
    )

pub returns-in-empty-2-clause-taken : goal.returns-in-empty-2-clause-taken
returns-in-empty-2-clause-taken c =
    let limit = c.args.self.now.limit in
    let done = c.args.self.now.bytes.items in
    let bytes = c.args.bytes.now in
    let first : get_or bytes 0 0 ≡ 13 = search rules in (
      refl,
      subst (λ s. TakesOn limit s done s done bytes 0) (sym c.requires.stage)
          (takes_no_line_end limit done bytes (cr_alone bytes c.in-empty.len_at_least c.in-empty.len_below first)),
    )
