use Rattle.std.proofs.Common.{ap, ◌∙◌}
use Rattle.bg_rollout.specs.Compaction.{with_compacted}
use Rattle.bg_book.proofs.Resting.{at-rest}
use Rattle.bg_book.proofs.book.Book.compact.Goals as goal

pub invariant_of-self : goal.invariant_of-self
invariant_of-self g c =
    let b = c.self.inside.rollout.routing in
    rw c.compact.ensures.new
    (at-rest c.no_longer.ensures g.N.Names.seats c.self.inside.rollout (c.compacts.ensures b.strategy b.opening b.closed b.past c.holds_invariant.ensures.legal) c.self.invariant)

pub returns-clause-new : goal.returns-clause-new
returns-clause-new g c = ap (λ m. m.routing) c.compact.ensures.new ∙ ap with_compacted c.self.view_is
