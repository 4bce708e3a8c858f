use Rattle.std.proofs.Common.{subst}
use Rattle.bg_rollout.specs.Meeting.{Meets}
use Rattle.bg_rollout.specs.Routing.{Routing}
use Rattle.bg_book.proofs.book.Book.meet.Goals as goal

pub returns-clause-met : goal.returns-clause-met
returns-clause-met g c = subst (λ (v : Routing). Meets v c.args.seat.now) c.self.view_is c.meet.ensures.met
