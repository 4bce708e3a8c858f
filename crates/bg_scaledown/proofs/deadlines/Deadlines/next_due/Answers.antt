use Rattle.std.proofs.Common.{◌≡◌, ℕ, Bool, rules, tests, subst, ◌∙◌, ap, not, ◌&&◌}
use Rattle.std.proofs.lemmas.Iterator.{YieldsList-from_slice, YieldsList-from_map}
use Rattle.std.proofs.lemmas.Iterator.Adapters.{YieldsList-from_skip, option_map_id}
use Rattle.std.proofs.lemmas.Iterator.Consumers.{YieldsList-at, YieldsList-from_filter, YieldsList-from_chain, min_from_yields_List}
use Rattle.std.proofs.lemmas.Iterator.Search.{YieldsList-from_take_while}
use Rattle.std.specs.Option.{unwrap_or}
use Rattle.std.specs.Iterator.Adapters.{skip_count}
use Rattle.bg_history.specs.Tables.{Table}
use Rattle.bg_scaledown.specs.Due.{exempts}
use Rattle.bg_scaledown.specs.Sorted.{sorted, OncePerRevision}
use Rattle.bg_scaledown.proofs.Found.{first-due}
use Rattle.bg_scaledown.proofs.Least.{least-due}
use Rattle.bg_scaledown.proofs.Passed.{leaves, limited, limited-is, member-candidates}
use Rattle.bg_scaledown.proofs.Sorting.{has_passed}
use Rattle.bg_scaledown.proofs.deadlines.Deadlines.next_due.Goals as goal

-- the chain gives the revisions whose marks are due and pass, and `min` the least of them
pub returns-clause-table : goal.returns-clause-table
returns-clause-table g c p agrees =
    let t : Table = c.args.self.now in
    let stays : ℕ → Bool = λ q. not (exempts c.args.exempt q) in
    let ordered : c.by_deadline.result.now ≡ sorted t.marks = c.by_deadline.ensures.marks ∙ ap (λ (t : Table). sorted t.marks) c.self.view_is in
    let newest : c.limited.result.now ≡ limited t.limit t.marks = limited-is t.limit t.marks c.limited.result.now c.limited.ensures.some c.limited.ensures.none in
    let limit : skip_count c.skip.result ≡ unwrap_or t.limit 0 = c.skip.ensures.count ∙ c.unwrap_or.ensures ∙ ap (λ (t : Table). unwrap_or t.limit 0) c.self.view_is in
    let once : OncePerRevision t.marks = subst (λ (t : Table). OncePerRevision t.marks) c.self.view_is c.by_deadline.ensures.once in
    let least = min_from_yields_List c.filter-2.result c.min.result c.min.ensures.ran
    (YieldsList-from_filter _ (λ q. stays q && p q)
    (YieldsList-at c.filter-2.ensures.source (YieldsList-from_chain
    (YieldsList-at c.chain.ensures.first (YieldsList-from_map _ (λ m. m.revision)
    (YieldsList-at c.map.ensures.source (YieldsList-from_take_while _ (has_passed c.args.now)
    (YieldsList-at c.take_while.ensures.source (YieldsList-from_slice (sorted t.marks) (c.iter-2.ensures.rest ∙ ordered)))
    c.take_while.ensures.closure c.take_while.ensures.done (λ x r q k. (search (rules, tests), search (rules, tests)))))
    c.map.ensures.closure (λ x r q k. search rules)))
    (YieldsList-at c.chain.ensures.second (YieldsList-from_map _ (λ m. m.revision)
    (YieldsList-at c.map-over.ensures.source (YieldsList-from_skip (unwrap_or t.limit 0)
    (YieldsList-at c.skip.ensures.source (YieldsList-from_filter _ (leaves stays)
    (YieldsList-at c.filter.ensures.source (YieldsList-from_slice (limited t.limit t.marks) (c.iter.ensures.rest ∙ newest)))
    c.filter.ensures.closure (λ x r q k. (search (rules, tests), search (rules, tests)))))
    limit))
    c.map-over.ensures.closure (λ x r q k. search rules)))
    c.chain.ensures.first_done c.chain.ensures.second_done))
    c.filter-2.ensures.closure (λ x r q k. (search (rules, tests), search (rules, tests, agrees)))) in
    rw (← option_map_id c.min.result, least)
    (least-due t c.args.now c.args.exempt p _ (λ q. member-candidates t c.args.now c.args.exempt p q once))

-- by a past, the result is the first revision that is due and passes
pub returns-clause-past : goal.returns-clause-past
returns-clause-past g c s past p kept invariant selected at agrees =
    first-due s past p c.min.result invariant (c.existing_ascends.ensures past) (rw (← kept, ← selected, ← at) (returns-clause-table g c p agrees))
