use Rattle.std.proofs.Common.{subst}
use Rattle.bg_book.specs.Headline.{Headline}
use Rattle.bg_book.proofs.Headlines.{headline_of}
use Rattle.bg_book.proofs.laws.headline.Goals as goal

pub returns : goal.returns
returns g c =
    let b = c.book.inside.rollout.routing in
    let represents = c.holds_invariant.ensures in
    subst Headline c.book.view_is
    (headline_of b represents (c.reachable.ensures b.strategy b.opening b.past represents.legal.allowed) c.book.invariant.settled (c.state_tells.ensures.deadlines b represents)
    (c.lists_requests.ensures.nodes b represents) (c.lists_requests.ensures.numbers b represents) (c.lists_requests.ensures.shares b represents))
