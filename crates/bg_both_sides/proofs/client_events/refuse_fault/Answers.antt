use Rattle.std.proofs.Common.{◌∙◌, ℕ, Option, sym, subst}
use Rattle.bg_client_side.specs.declared.reading.Fed.{Fed}
use Rattle.bg_both_sides.specs.Answers.{Answer}
use Rattle.bg_both_sides.specs.ClientEvents.{RefusesBy, RefusesFault}
use Rattle.bg_both_sides.proofs.client_events.refuse_fault.Goals as goal

pub returns-in-Some : goal.returns-in-Some
returns-in-Some c =
    let fault = c.in-Refused.fault in
    let now = c.args.now in
    let old = c.args.client.now in
    let new = c.refuse_fault.new.client in
    subst (λ (read : Fed). (answer : Option Answer) × RefusesFault read now old answer new) (sym c.in-Refused.is)
    (subst (λ (status : Option ℕ). (answer : Option Answer) × RefusesBy fault status now old answer new)
    (sym c.in-Some.is ∙ c.status.ensures.status) (c.refuse_fault.ensures fault))
