use Rattle.std.proofs.Common.{◌≡◌, None}
use Rattle.bg_history.specs.Templates.{namesake}
use Rattle.bg_rollout.specs.Refusals.{deploy_fault}
use Rattle.bg_rollout.proofs.ControlEvents.Allowing.{allowed_deploy}
use Rattle.bg_rollout.proofs.rollout.Rollout.judge_event.Goals as goal

pub returns-in_ok-namesake-in-Deploy-clause-accepted : goal.returns-in_ok-namesake-in-Deploy-clause-accepted
returns-in_ok-namesake-in-Deploy-clause-accepted g c =
    let b = c.args.self.now.routing in
    let name = c.in-Deploy.name in
    let ports = c.in-Deploy.ports in
    let checked = c.in_ok-namesake-in-Deploy in
    let found : checked.namesake ≡ namesake b.opening name b.past = rw (← c.get.ensures) checked.ensures.namesake in
    let fits : deploy_fault b name ports ≡ None = rw (← c.get.ensures, ← c.get-in-Deploy.ensures) checked.ensures.judged in
    record { allowed = allowed_deploy b checked.namesake name ports fits found; found = found }
