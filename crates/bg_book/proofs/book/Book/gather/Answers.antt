use Rattle.std.proofs.Common.{◌≡◌, ℕ, List, subst}
use Rattle.bg_history.specs.declared.entry.Entry.{Entry}
use Rattle.bg_history.specs.Kept.{Opening}
use Rattle.bg_history.specs.Steps.{IsLegal}
use Rattle.bg_rollout.specs.Routing.{Routing}
use Rattle.bg_book.proofs.book.Book.gather.Goals as goal

-- the history in the result is the book's history
legal_at : (b now : Routing) (o : Opening) (closed : List ℕ) (past : List Entry) → b ≡ now → o ≡ b.opening → closed ≡ b.closed → past ≡ b.past
    → IsLegal b.strategy b.opening b.closed b.past → IsLegal now.strategy o closed past
legal_at b now o closed past is same_opening same_closed same_past legal =
    subst (λ (v : Routing). IsLegal v.strategy o closed past) is (rw (same_opening, same_closed, same_past) legal)

pub returns-clause-legal : goal.returns-clause-legal
returns-clause-legal g c = legal_at c.self.inside.rollout.routing _ _ _ _ c.self.view_is c.end.ensures.history.0 c.end.ensures.history.1 c.end.ensures.history.2 c.holds_invariant.ensures.legal
