use Rattle.std.proofs.Common.{◌≡◌, ◌∷◌, [], subst}
use Rattle.bg_ledger.specs.declared.holding.Holding.{Holding}
use Rattle.bg_ledger.specs.Holdings.{after_leave}
use Rattle.bg_rollout.specs.declared.ticket.Left.{Left}
use Rattle.bg_rollout.specs.Routing.{Routing}
use Rattle.bg_book.specs.declared.calls.Reply.TheVariants as reply
use Rattle.bg_book.specs.Runs.{LeaveStep}
use Rattle.bg_book.proofs.Running.{changed_alone}
use Rattle.bg_book.proofs.book.Book.leave.Goals as goal

-- a seat and the book's record of it, which were compared before, did not change by that
once_met : (b met new : Routing) (seat met_seat new_seat : Holding) (l : Left) → met ≡ b → met_seat ≡ seat
    → LeaveStep met (met_seat ∷ []) 0 met_seat (reply.Left l) new (new_seat ∷ []) → LeaveStep b (seat ∷ []) 0 seat (reply.Left l) new (new_seat ∷ [])
once_met b met new seat met_seat new_seat l same same_seat step =
    subst (λ (v : Holding). LeaveStep b (v ∷ []) 0 v (reply.Left l) new (new_seat ∷ [])) same_seat
    (subst (λ (r : Routing). LeaveStep r (met_seat ∷ []) 0 met_seat (reply.Left l) new (new_seat ∷ [])) same step)

pub returns-clause-told : goal.returns-clause-told
returns-clause-told g c =
    let left = c.leave_met-left.ensures in
    let seat = c.meet.new.seat in record {
      headline = c.headline.ensures;
      met = c.meet.ensures.met;
      step =
          once_met c.args.self.now c.meet.new.self c.leave_met-left.new.self c.args.seat.now seat c.leave_met-left.new.seat c.leave_met-left.result c.meet.ensures.book c.meet.ensures.seat
          (left.left, changed_alone c.meet.new.self c.leave_met-left.new.self seat c.leave_met-left.new.seat (after_leave seat) left.book left.seat, left.step);
      new_headline = c.headline-2.ensures;
    }
