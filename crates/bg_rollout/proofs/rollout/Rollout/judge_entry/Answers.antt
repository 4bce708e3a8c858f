use Rattle.std.proofs.Common.{◌≡◌, false, Err, sym, subst, ◌∙◌}
use Rattle.bg_history.specs.declared.entry.Entry.{Entry}
use Rattle.bg_history.specs.Deadlines.{exists_in}
use Rattle.bg_history.specs.Sizes.{desired}
use Rattle.bg_promotion.specs.Answers.{abort_answer, promote_full_answer}
use Rattle.bg_rollout.specs.Following.{is_event_allowed}
use Rattle.bg_rollout.specs.Invariant.{RolloutModel, PartsRepresent, model_of, parts_of}
use Rattle.bg_rollout.proofs.Following.{report_refused, abort_refused, full_refused}
use Rattle.bg_rollout.proofs.rollout.Rollout.judge_entry.Goals as goal

pub returns-in-Err : goal.returns-in-Err
returns-in-Err g c =
    let b = c.args.self.now.routing in
    let r = c.in-Available.revision in
    subst (λ (x : Entry). is_event_allowed b x ≡ false) (sym c.in-Available.is)
    (report_refused (exists_in r b.past) c.in-Available.size (desired b.strategy r b.past) c.in-Err.field-0 (sym c.check_report.ensures ∙ c.in-Err.is))

pub returns-in-Err-promote_full : goal.returns-in-Err-promote_full
returns-in-Err-promote_full g c =
    let b = (model_of c.self.inside).routing in
    let represents : PartsRepresent b (parts_of c.self.inside) = c.self.invariant in
    let e = c.in-Err-promote_full.field-0 in
    let inside : promote_full_answer b.past ≡ Err e = sym (c.promote_full.ensures.answer b.strategy b.past represents.core) ∙ c.in-Err-promote_full.is in
    subst (λ (x : Entry). is_event_allowed c.args.self.now.routing x ≡ false) (sym c.in-PromoteFull.is)
    (full_refused c.args.self.now.routing.past e (subst (λ (m : RolloutModel). promote_full_answer m.routing.past ≡ Err e) c.self.view_is inside))

pub returns-in-Err-abort : goal.returns-in-Err-abort
returns-in-Err-abort g c =
    let b = (model_of c.self.inside).routing in
    let represents : PartsRepresent b (parts_of c.self.inside) = c.self.invariant in
    let e = c.in-Err-abort.field-0 in
    let inside : abort_answer b.past ≡ Err e = sym (c.abort.ensures.answer b.strategy b.past represents.core) ∙ c.in-Err-abort.is in
    subst (λ (x : Entry). is_event_allowed c.args.self.now.routing x ≡ false) (sym c.in-Abort.is)
    (abort_refused c.args.self.now.routing.past e (subst (λ (m : RolloutModel). abort_answer m.routing.past ≡ Err e) c.self.view_is inside))
