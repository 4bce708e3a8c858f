use Rattle.std.specs.Prelude.{IfOk, OnErr}
use Rattle.std.proofs.Common.{◌≡◌, ◌∷◌, [], Result, Ok, Err, slice_set, ap, subst}
use Rattle.bg_revisions.specs.declared.revision.Service.{Service}
use Rattle.bg_ledger.specs.declared.holding.Holding.{Holding}
use Rattle.bg_rollout.specs.declared.fault.EnterFault.{EnterFault}
use Rattle.bg_rollout.specs.declared.fault.EnterFault.TheVariants.{OutOfMemory}
use Rattle.bg_rollout.specs.declared.ticket.Ticket.{Ticket}
use Rattle.bg_rollout.specs.Changes.{Stepped, with_past, enter_entry, seat_in}
use Rattle.bg_rollout.specs.Refusals.{AnswersBy, IsTicket, enter_refusal}
use Rattle.bg_rollout.specs.Routing.{Routing}
use Rattle.bg_book.specs.Desks.{enter_reply}
use Rattle.bg_book.specs.Runs.{EnterStep}
use Rattle.bg_book.proofs.Running.{changed_alone}
use Rattle.bg_book.proofs.book.Book.enter.Goals as goal

-- the answer as a reply to a call of this seat alone
replied : (b new : Routing) (seat new_seat : Holding) (service : Service) (answer : Result Ticket EnterFault)
    → AnswersBy (enter_refusal b service) OutOfMemory answer → IfOk answer (IsTicket b service)
    → IfOk answer (λ t. new_seat ≡ seat_in seat t) → IfOk answer (λ t. Stepped b.strategy (enter_entry seat.index service t) b.past new.past 0)
    → IfOk answer (λ t. new ≡ with_past b new.past (slice_set b.seats seat.index new_seat)) → OnErr answer (new ≡ b) → OnErr answer (new_seat ≡ seat)
    → EnterStep b (seat ∷ []) 0 seat service (enter_reply answer) new (new_seat ∷ [])
replied b new seat new_seat service (Ok t) none ticket entered step book unchanged seat_unchanged =
    (none, ticket, changed_alone b new seat new_seat (seat_in seat t) book entered, step)
replied b new seat new_seat service (Err e) refused ticket entered step book unchanged seat_unchanged =
    (refused, (unchanged, ap (λ (v : Holding). v ∷ []) seat_unchanged))

-- a seat and the book's record of it, which were compared before, did not change by that
once_met : (b met new : Routing) (seat met_seat new_seat : Holding) (service : Service) (answer : Result Ticket EnterFault) → met ≡ b → met_seat ≡ seat
    → EnterStep met (met_seat ∷ []) 0 met_seat service (enter_reply answer) new (new_seat ∷ []) → EnterStep b (seat ∷ []) 0 seat service (enter_reply answer) new (new_seat ∷ [])
once_met b met new seat met_seat new_seat service answer same same_seat step =
    subst (λ (v : Holding). EnterStep b (v ∷ []) 0 v service (enter_reply answer) new (new_seat ∷ [])) same_seat
    (subst (λ (r : Routing). EnterStep r (met_seat ∷ []) 0 met_seat service (enter_reply answer) new (new_seat ∷ [])) same step)

pub returns-clause-told : goal.returns-clause-told
returns-clause-told g c =
    let answer = c.enter_met-answer.ensures in record {
      headline = c.headline.ensures;
      met = c.meet.ensures.met;
      step =
          once_met c.args.self.now c.meet.new.self c.enter_met-answer.new.self c.args.seat.now c.meet.new.seat c.enter_met-answer.new.seat c.args.service c.enter_met-answer.result c.meet.ensures.book c.meet.ensures.seat
          (replied c.meet.new.self c.enter_met-answer.new.self c.meet.new.seat c.enter_met-answer.new.seat c.args.service c.enter_met-answer.result
          answer.refusal answer.ticket answer.seat answer.step answer.book answer.unchanged answer.seat_unchanged);
      new_headline = c.headline-2.ensures;
    }
