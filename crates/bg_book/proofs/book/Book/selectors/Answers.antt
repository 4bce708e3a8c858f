use Rattle.std.proofs.Common.{◌≡◌, sym, ap, ◌∙◌, subst}
use Rattle.bg_rollout.specs.Routing.{Routing}
use Rattle.bg_rollout.specs.State.{State}
use Rattle.bg_book.proofs.book.Book.selectors.Goals as goal

pub returns-clause-running : goal.returns-clause-running
returns-clause-running g c =
    subst (λ (v : Routing). c.selectors.result ≡ v.running.selectors) c.self.view_is
    (c.selectors.ensures ∙ sym (ap (λ (x : State). x.selectors) c.holds_invariant.ensures.running))
