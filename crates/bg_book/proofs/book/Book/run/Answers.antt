use Rattle.std.proofs.Common.{◌+◌, ◌++◌, ◌∷◌, [], List, take, sym, ap, ◌∙◌, subst}
use Rattle.std.proofs.lemmas.List.{take_more}
use Rattle.bg_book.specs.declared.calls.Call.{Call}
use Rattle.bg_book.specs.declared.calls.Reply.{Reply}
use Rattle.bg_book.specs.Runs.{Runs}
use Rattle.bg_book.proofs.Running.{run_more}
use Rattle.bg_book.proofs.book.Book.run.Goals as goal

pub loop-call-preserved : goal.loop-call-preserved
loop-call-preserved g c =
    let b = c.args.self.now in
    let seats = c.args.seats.now in
    let before = take c.loop-call.call-index c.args.calls.now in
    let made = run_more b seats before c.loop-call.replies.items c.loop-call.self c.loop-call.seats c.call-item.result c.call-reply.result c.call-reply.new.self c.call-reply.new.seats
    c.loop-call.invariant.0 c.call-reply.ensures.reply in (
      subst (λ (calls : List Call). Runs b seats calls c.push_reserved.new.self.items c.call-reply.new.self c.call-reply.new.seats)
          (ap (λ (d : Call). before ++ d ∷ []) c.call-item.is ∙ sym (take_more c.args.calls.now c.loop-call.call-index c.call-item.result c.loop-call-test.true))
          (subst (λ (replies : List Reply). Runs b seats (before ++ c.call-item.result ∷ []) replies c.call-reply.new.self c.call-reply.new.seats)
          (sym c.push_reserved.ensures.items) made),
      c.call-reply.ensures.order ∙ c.loop-call.invariant.1,
      c.push_reserved.ensures.len ∙ ap (λ n. n + 1) c.loop-call.invariant.2,
      rw c.push_reserved.ensures.capacity c.loop-call.invariant.3,
    )
