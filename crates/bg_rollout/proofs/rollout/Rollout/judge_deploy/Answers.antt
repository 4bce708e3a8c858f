use Rattle.std.proofs.Common.{◌≡◌, ◌+◌, ℕ, None, Some, unwrap_or, sym, ap, ◌∙◌}
use Rattle.bg_history.specs.declared.entry.Entry.TheVariants as entry
use Rattle.bg_history.specs.Sizes.{last_number}
use Rattle.bg_history.specs.Templates.{namesake}
use Rattle.bg_rollout.specs.Refusals.{deploy_fault}
use Rattle.bg_rollout.proofs.OpenRequests.Requests.{eq_from}
use Rattle.bg_rollout.proofs.ControlEvents.Allowing.{allowed_deploy}
use Rattle.bg_rollout.proofs.Following.{deploy_refused, number_refused}
use Rattle.bg_rollout.proofs.rollout.Rollout.judge_deploy.Goals as goal

pub returns-then-is_number_of : goal.returns-then-is_number_of
returns-then-is_number_of g c =
    let b = c.args.self.now.routing in
    let name = c.args.name.now in
    let ports = c.args.ports.now in
    let found : c.in-Ok.namesake ≡ namesake b.opening name b.past = rw (← c.get.ensures) c.in-Ok.ensures.namesake in
    let fits : deploy_fault b name ports ≡ None = rw (← c.get.ensures, ← c.get-2.ensures) c.in-Ok.ensures.judged in
    let same : unwrap_or c.in-Ok.namesake (last_number b.past + 1) ≡ c.args.revision =
    eq_from (unwrap_or c.in-Ok.namesake (last_number b.past + 1)) c.args.revision (sym c.is_number_of.ensures ∙ c.if-is_number_of.true) in (
      ap (λ (r : ℕ). entry.Deploy r name ports) same,
      record { allowed = allowed_deploy b c.in-Ok.namesake name ports fits found; found = found },
    )

pub returns-else-is_number_of : goal.returns-else-is_number_of
returns-else-is_number_of g c =
    let b = c.args.self.now.routing in
    let name = c.args.name.now in
    let found : c.in-Ok.namesake ≡ namesake b.opening name b.past = rw (← c.get.ensures) c.in-Ok.ensures.namesake in
    number_refused b c.args.revision name c.args.ports.now c.in-Ok.namesake found (sym c.is_number_of.ensures ∙ c.if-is_number_of.false)

pub returns-in-Err : goal.returns-in-Err
returns-in-Err g c =
    let b = c.args.self.now.routing in
    let name = c.args.name.now in
    let ports = c.args.ports.now in
    let fault : deploy_fault b name ports ≡ Some c.in-Err.field-0 = rw (← c.get.ensures, ← c.get-2.ensures) c.in-Err.ensures.judged in
    deploy_refused b c.args.revision name ports c.in-Err.field-0 fault
