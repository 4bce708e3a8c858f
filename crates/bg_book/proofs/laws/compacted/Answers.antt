use Rattle.std.proofs.Common.{subst, is_none, ap, ◌∙◌}
use Rattle.bg_history.specs.Compacted.{compacted, closed_after}
use Rattle.bg_rollout.specs.Compaction.{with_compacted}
use Rattle.bg_book.specs.Headline.{Headline}
use Rattle.bg_rollout.specs.Invariant.{RoutingInvariant}
use Rattle.bg_rollout.specs.Routing.{Routing}
use Rattle.bg_book.proofs.Headlines.{headline_of}
use Rattle.bg_book.proofs.Replying.{keeps_reply}
use Rattle.bg_book.proofs.SameStates.{same_state}
use Rattle.bg_book.proofs.laws.compacted.Goals as goal

pub returns-clause-reply : goal.returns-clause-reply
returns-clause-reply g c =
    let b : Routing = c.args.book.now in
    let represents = subst RoutingInvariant c.book.view_is c.holds_invariant.ensures in
    keeps_reply b (record {
      represents = represents;
      compacts = c.compacts.ensures b.strategy b.opening b.closed b.past represents.legal;
      shorter = c.no_longer.ensures;
      lists = c.compaction_keeps.ensures.lists b.strategy b.opening;
      table = c.keeps_table.ensures b.strategy b.opening;
      states = c.compaction_keeps.ensures.states b.strategy b.opening;
      once =
          ap (λ p. record b { closed = closed_after (compacted b.past) (closed_after b.past b.closed); past = p }) (c.compacts_once.ensures.past b.past)
          ∙ ap (λ n. record b { closed = n; past = compacted b.past }) (c.compacts_once.ensures.closed b.past (closed_after b.past b.closed));
      commutes = λ e outcomes new anew step. c.commutes.ensures b.strategy b.opening b.closed e b.past outcomes new represents.legal.allowed anew step;
    }) c.args.seats.now c.args.call.now

pub returns-clause-state : goal.returns-clause-state
returns-clause-state g c =
    let b : Routing = c.args.book.now in
    let represents = subst RoutingInvariant c.book.view_is c.holds_invariant.ensures in
    let k = c.compacts.ensures b.strategy b.opening b.closed b.past represents.legal in
    same_state b k (c.compaction_keeps.ensures.revisions b.strategy b.opening b.past (compacted b.past) k.same)

pub returns-clause-headline : goal.returns-clause-headline
returns-clause-headline g c =
    let b = c.book.inside.rollout.routing in
    let k = c.compacts.ensures b.strategy b.opening b.closed b.past c.holds_invariant.ensures.legal in
    let new : Routing = with_compacted b in
    let represents = c.compaction_keeps.ensures.holds_invariant b c.holds_invariant.ensures in
    subst (λ x. Headline (with_compacted x)) c.book.view_is
    (headline_of new represents (c.reachable.ensures new.strategy new.opening new.past represents.legal.allowed) (ap is_none k.first ∙ c.book.invariant.settled) (c.state_tells.ensures.deadlines new represents)
    (c.lists_requests.ensures.nodes new represents) (c.lists_requests.ensures.numbers new represents) (c.lists_requests.ensures.shares new represents))
