use Rattle.std.proofs.Common.{◌≡◌, ◌∙◌, Bool, ap, sym, rules}
use Rattle.bg_history.specs.declared.entry.Entry.TheVariants.{Deploy, Verdict, Abort, Retry, Outcome}
use Rattle.bg_history.specs.declared.entry.Outcome.TheVariants.{Switched, ScaledDown}
use Rattle.bg_history.specs.AttemptBounds.{moment}
use Rattle.bg_history.specs.Selections.{selectors_of}
use Rattle.bg_scaledown.specs.Due.{marks_without}
use Rattle.bg_history.specs.Tables.{stamps_of, marks_of}
use Rattle.bg_scaledown.specs.Events.{deployed, halted, switched}
use Rattle.bg_scaledown.proofs.Deploys.{marks-deploy}
use Rattle.bg_scaledown.proofs.Halts.{marks-abort, marks-verdict}
use Rattle.bg_scaledown.proofs.Switches.{marks-switch, marks-scaled_down, marks-retry}
use Rattle.bg_scaledown.proofs.Recorded.{table-changed}
use Rattle.bg_scaledown.proofs.deadlines.Deadlines.record.Goals as goal

pub returns-in-Deploy : goal.returns-in-Deploy
returns-in-Deploy c s past kept selected scaled at =
    let r = c.in-Deploy.revision in
    let b = c.args.newest_is_scaled in
    let e = Deploy r c.in-Deploy.name c.in-Deploy.ports in
    rw c.in-Deploy.is
    (table-changed s past e (λ x now delay abort_delay ms. deployed r x b now delay ms) c.args.self.now c.record_deploy.new.self c.args.selectors c.args.now kept selected at c.record_deploy.ensures
    (marks-deploy s r c.in-Deploy.name c.in-Deploy.ports past
    ∙ ap (λ (t : Bool). deployed r (selectors_of past) t (moment past) s.delay (marks_of (stamps_of s past))) (sym scaled)))

pub returns-in-Retry : goal.returns-in-Retry
returns-in-Retry c s past kept selected scaled at =
    rw c.in-Retry.is
    (table-changed s past Retry (λ x now delay abort_delay marks. marks_without x.newest marks) c.args.self.now c.clear.new.self c.args.selectors c.args.now kept selected at c.clear.ensures (marks-retry s past))

pub returns-in-Outcome-Switched : goal.returns-in-Outcome-Switched
returns-in-Outcome-Switched c s past kept selected scaled at =
    let r = c.in-Outcome-Switched.revision in
    let is : c.args.entry.now ≡ Outcome (Switched r) = search rules in
    rw is
    (table-changed s past (Outcome (Switched r)) (λ x now delay abort_delay marks. switched r x now delay marks) c.args.self.now c.record_switch.new.self c.args.selectors c.args.now kept selected at c.record_switch.ensures (marks-switch s r past))

pub returns-in-Outcome-ScaledDown : goal.returns-in-Outcome-ScaledDown
returns-in-Outcome-ScaledDown c s past kept selected scaled at =
    let r = c.in-Outcome-ScaledDown.revision in
    let is : c.args.entry.now ≡ Outcome (ScaledDown r) = search rules in
    rw is
    (table-changed s past (Outcome (ScaledDown r)) (λ x now delay abort_delay marks. marks_without r marks) c.args.self.now c.clear-in-Outcome-ScaledDown.new.self c.args.selectors c.args.now kept selected at c.clear-in-Outcome-ScaledDown.ensures (marks-scaled_down s r past))

pub returns-in-Abort : goal.returns-in-Abort
returns-in-Abort c s past kept selected scaled at =
    rw c.in-Abort.is
    (table-changed s past Abort halted c.args.self.now c.record_halt.new.self c.args.selectors c.args.now kept selected at c.record_halt.ensures (marks-abort s past))

pub returns-in-Failed : goal.returns-in-Failed
returns-in-Failed c s past kept selected scaled at =
    let e = Verdict c.in-Verdict.analysis c.in-Verdict.result in
    rw c.in-Verdict.is
    (table-changed s past e halted c.args.self.now c.record_halt-in-Failed.new.self c.args.selectors c.args.now kept selected at c.record_halt-in-Failed.ensures (marks-verdict s c.in-Verdict.analysis c.in-Verdict.result past c.in-Failed.is))
