use Rattle.std.proofs.Common.{◌≡◌, get_or, inr, refl, rules}
use Rattle.bg_relay.proofs.StepLemmas.{line_end_step, return_alone}
use Rattle.bg_relay.proofs.steps.line_end_step.Goals as goal

pub returns-in-13-clause-step : goal.returns-in-13-clause-step
returns-in-13-clause-step c room =
    let bytes = c.args.bytes.now in
    let first : get_or bytes 0 0 ≡ 13 = search rules in
    let second : get_or bytes 1 0 ≡ 10 = search rules in
    line_end_step bytes room c.in-13.len_at_least first second

pub returns-in-empty-2-clause-waits : goal.returns-in-empty-2-clause-waits
returns-in-empty-2-clause-waits c =
    let bytes = c.args.bytes.now in
    let first : get_or bytes 0 0 ≡ 13 = search rules in
    inr (refl, return_alone bytes c.in-empty.len_at_least c.in-empty.len_below first)
