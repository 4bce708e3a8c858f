use Rattle.std.proofs.Common.{◌≡◌, IfOk, Result, Ok, Err, None, inl, inr}
use Rattle.bg_book.specs.Desks.{AnswersEnter, AnswersEnterCompacting, enter_reply}
use Rattle.bg_book.specs.Headline.{Headline}
use Rattle.bg_rollout.specs.Meeting.{Meets}
use Rattle.bg_rollout.specs.Refusals.{IsTicket, enter_refusal}
use Rattle.bg_rollout.specs.Routing.{Routing}
use Rattle.bg_rollout.specs.declared.ticket.Ticket.{Ticket}
use Rattle.bg_rollout.specs.declared.fault.EnterFault.{EnterFault}
use Rattle.bg_ledger.specs.declared.holding.Holding.{Holding}
use Rattle.bg_revisions.specs.declared.revision.Service.{Service}
use Rattle.bg_forward.proofs.desk_gate.DeskGateGate.enter.Goals as goal

-- a book that meets the seat gives the ticket
abbrev Given : Holding → Service → Ticket → Type 0
Given seat service t = (b : Routing) × Headline b × Meets b seat × (enter_refusal b service ≡ None) × IsTicket b service t

given : (b new : Routing) (seat new_seat : Holding) (service : Service) (r : Result Ticket EnterFault)
    → AnswersEnter b seat service (enter_reply r) new new_seat → IfOk r (Given seat service)
given b new seat new_seat service (Ok t) answered = (b, answered.headline, answered.met, answered.step.0, answered.step.1)
given b new seat new_seat service (Err e) answered = tt

-- that book, or the compacted one
given_compacting : (b new : Routing) (seat new_seat : Holding) (service : Service) (r : Result Ticket EnterFault)
    → AnswersEnterCompacting b seat service (enter_reply r) new new_seat → IfOk r (Given seat service)
given_compacting b new seat new_seat service r (inl answered) = given _ new seat new_seat service r answered.0
given_compacting b new seat new_seat service r (inr answered) = given _ new seat new_seat service r answered.1

pub returns-clause-gives : goal.returns-clause-gives
returns-clause-gives g c =
    let told = c.enter_with_compaction.ensures.told in
    given_compacting told.0 told.1 c.args.seat.now c.enter_with_compaction.new.seat c.args.service c.enter_with_compaction.result told.2
