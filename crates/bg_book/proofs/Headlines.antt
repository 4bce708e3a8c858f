-- The headline holds of every book.
use Rattle.std.specs.Prelude.{sum_by}
use Rattle.std.proofs.Common.{◌≡◌, ℕ, true, List, length, map, sym, ap, ◌∙◌}
use Rattle.std.proofs.lemmas.List.{length-map}
use Rattle.bg_history.specs.Requests.{open_at}
use Rattle.bg_history.specs.Deadlines.{deadline}
use Rattle.bg_history.specs.Steps.{is_settled}
use Rattle.bg_history_laws.specs.Reachable.{Reachable}
use Rattle.bg_rollout.specs.declared.request_lists.OpenRequest.{OpenRequest}
use Rattle.bg_rollout.specs.RequestLists.{requests_of}
use Rattle.bg_rollout.specs.Invariant.{RoutingInvariant}
use Rattle.bg_rollout.specs.PastState.{requests_at, share}
use Rattle.bg_rollout.specs.Routing.{Routing}
use Rattle.bg_rollout.specs.State.{deadline_at}
use Rattle.bg_book.specs.Headline.{Headline}
use Rattle.bg_book.proofs.ByRule.{reached_by_rule}

-- the list has as many requests as numbers
counted : (xs : List OpenRequest) (numbers : List ℕ) → map (λ q. q.number) xs ≡ numbers → length xs ≡ length numbers
counted xs numbers is = sym (length-map xs (λ (q : OpenRequest). q.number)) ∙ ap length is

pub headline_of : (b : Routing) → RoutingInvariant b → Reachable b.strategy b.opening b.past → is_settled b.strategy b.past ≡ true
    → ((r : ℕ) → deadline_at b.running r ≡ deadline b.strategy r b.past)
    → ((r : ℕ) → requests_of r b.lists ≡ requests_at r b.past) → ((r : ℕ) → map (λ q. q.number) (requests_of r b.lists) ≡ open_at r b.past)
    → ((r : ℕ) → sum_by (share r) b.seats ≡ length (open_at r b.past)) → Headline b
headline_of b represents reach settled deadlines nodes numbers shares = record {
  fold = represents.running;
  deadlines = deadlines;
  legal = represents.legal;
  settled = settled;
  active = reach.active;
  preview = reach.preview;
  by_rule = reached_by_rule _ _ b.past represents.legal.allowed;
  lists = represents.lists;
  nodes = nodes;
  listed = numbers;
  counted = λ r. counted (requests_of r b.lists) (open_at r b.past) (numbers r);
  shares = shares;
  seats = represents.seats;
  unscaled = reach.unscaled_empty;
}
