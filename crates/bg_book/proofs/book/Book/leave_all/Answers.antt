use Rattle.std.proofs.Common.{◌≡◌, ℕ, suc, ◌+◌, ◌++◌, ◌∷◌, [], List, refl, ◌∙◌, subst, arith}
use Rattle.bg_book.specs.declared.calls.Call.TheVariants as call
use Rattle.bg_book.specs.declared.calls.Reply.{Reply}
use Rattle.bg_book.specs.Runs.{Runs, leaves_at}
use Rattle.bg_book.proofs.Running.{run_more}
use Rattle.bg_book.proofs.SeatsOut.{out_after}
use Rattle.bg_book.proofs.book.Book.leave_all.Goals as goal

pub loop-place-init : goal.loop-place-init
loop-place-init g c = (([], (refl, refl)), (λ i seat get within. absurd (omega (arith, within))), refl)

pub loop-place-preserved : goal.loop-place-preserved
loop-place-preserved g c =
    let b = c.args.self.now in
    let seats = c.args.seats.now in
    let place = c.loop-place.place in
    let replies : List Reply = c.loop-place.invariant.0.0 ++ c.leave_at-reply.result ∷ [] in
    let made = run_more b seats (leaves_at place) c.loop-place.invariant.0.0 c.loop-place.self c.loop-place.seats (call.Leave place) c.leave_at-reply.result c.leave_at-reply.new.self c.leave_at-reply.new.seats
    c.loop-place.invariant.0.1 c.leave_at-reply.ensures.reply in
    let next : suc place ≡ place + 1 = omega arith in (
      (replies, subst (λ (n : ℕ). Runs b seats (leaves_at n) replies c.leave_at-reply.new.self c.leave_at-reply.new.seats) next made),
      out_after _ c.loop-place.seats place c.leave_at-reply.result c.leave_at-reply.new.self c.leave_at-reply.new.seats c.leave_at-reply.ensures.reply c.loop-place.invariant.1,
      c.leave_at-reply.ensures.order ∙ c.loop-place.invariant.2,
    )
