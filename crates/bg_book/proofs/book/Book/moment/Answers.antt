use Rattle.std.proofs.Common.{◌≡◌, sym, ap, ◌∙◌, subst}
use Rattle.bg_rollout.specs.Routing.{Routing}
use Rattle.bg_rollout.specs.State.{State}
use Rattle.bg_book.proofs.book.Book.moment.Goals as goal

pub returns-clause-running : goal.returns-clause-running
returns-clause-running g c =
    subst (λ (v : Routing). c.moment.result ≡ v.running.moment) c.self.view_is
    (c.moment.ensures ∙ sym (ap (λ (x : State). x.moment) c.holds_invariant.ensures.running))
