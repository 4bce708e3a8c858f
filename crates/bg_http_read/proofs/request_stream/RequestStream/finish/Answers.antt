use Rattle.std.proofs.Common.{Bool, true, [], ◌++◌, IfErr, IfOk, IsTrue, ap, subst, ◌∙◌}
use Rattle.std.proofs.lemmas.List.{append-nil}
use Rattle.bg_http_read.specs.RequestStates.{FailsAsked, ReadsAsked}
use Rattle.bg_http_read.specs.RequestsFed.{EndsTo, was_asked}
use Rattle.bg_http_read.proofs.RequestSteps.{ends_behind, ends_faulty, ends_with, read_here, refused_here}
use Rattle.bg_http_read.proofs.StreamFaults.{if_err_is}
use Rattle.bg_http_read.proofs.request_stream.RequestStream.finish.Goals as goal

pub returns-in-Whole-clause-request : goal.returns-in-Whole-clause-request
returns-in-Whole-clause-request c =
    let before = c.self.inside in
    let asked = was_asked before.feed.progress.stage in
    let is_open : IsTrue before.is_open = ap (λ s. s.is_open) c.self.view_is ∙ c.requires in
    let answer = rw c.in-Whole.is at c.in_ok-step.ensures.answer before.seen.bytes (c.self.invariant is_open) in
    subst (λ s. (x : Bool) × ReadsAsked x c.in-Whole.request s.since) c.self.view_is
    (subst (λ l. (x : Bool) × ReadsAsked x c.in-Whole.request l) (append-nil before.seen.bytes)
    (asked, read_here asked c.in-Whole.request (before.seen.bytes ++ []) answer.0 answer.1))

pub returns-in-More : goal.returns-in-More
returns-in-More c =
    let before = c.self.inside in
    let after = c.feed.new.self in
    let asked = was_asked after.progress.stage in
    let is_open : IsTrue before.is_open = ap (λ s. s.is_open) c.self.view_is ∙ c.requires in
    let ends = subst (λ l. EndsTo asked l c.end.result) (append-nil before.seen.bytes)
    (ends_behind true (was_asked before.feed.progress.stage) (before.seen.bytes ++ []) c.in_ok-step.step after c.end.result
    c.in-More.is (c.in_ok-step.ensures.answer before.seen.bytes (c.self.invariant is_open)) c.end.ensures.answer) in
    record {
      request = subst (λ s. IfOk c.end.result (λ request. (x : Bool) × ReadsAsked x request s.since)) c.self.view_is
          (ends_with asked before.seen.bytes c.end.result ends);
      refused = subst (λ s. IfErr c.end.result (λ e. (x : Bool) × FailsAsked x s.since e)) c.self.view_is
          (ends_faulty asked before.seen.bytes c.end.result ends);
      read = c.end.ensures.read;
      write = c.end.ensures.write;
    }

pub returns-in_err-step-clause-refused : goal.returns-in_err-step-clause-refused
returns-in_err-step-clause-refused c =
    let before = c.self.inside in
    let asked = was_asked before.feed.progress.stage in
    let is_open : IsTrue before.is_open = ap (λ s. s.is_open) c.self.view_is ∙ c.requires in
    let e = c.in_err-step.field-0.0 in
    if_err_is (λ f. (x : Bool) × FailsAsked x c.args.self.now.since f) c.from_residual.result e c.from_residual.ensures.1
    (subst (λ s. (x : Bool) × FailsAsked x s.since e) c.self.view_is
    (subst (λ l. (x : Bool) × FailsAsked x l e) (append-nil before.seen.bytes) (
      asked,
      refused_here asked e (before.seen.bytes ++ [])
          (c.in_err-step.ensures.answer before.seen.bytes (c.self.invariant is_open)),
    )))
