use Rattle.std.proofs.Common.{ℕ, ap, sym, ◌∙◌}
use Rattle.bg_rollout.specs.Routing.{Routing}
use Rattle.bg_rollout.specs.Gathering.{are_all}
use Rattle.bg_rollout.proofs.WholeStates.Openings.{fits, shown-opened, holds_invariant-shown}
use Rattle.bg_rollout.proofs.SeatRecords.Sequence.{new_in_order}
use Rattle.bg_rollout.proofs.OpenRequests.Requests.{and_both}
use Rattle.bg_rollout.proofs.rollout.Rollout.assemble.Goals as goal

pub first_parts-requires : goal.first_parts-requires
first_parts-requires g c =
    let fit = fits c.args.opening.now.strategy.now c.args.opening.now.name.now c.args.opening.now.ports.now c.args.opening.now.seats c.args.opening.now.limits c.requires.fits in
    rw c.requires.copy (and_both _ _ fit.name_fits fit.ports_fit)

pub invariant_of-rollout : goal.invariant_of-rollout
invariant_of-rollout g c =
    let parts = c.in_ok-history.ensures in
    rw (parts.roster, parts.history, parts.lists, c.new-deadlines.ensures, c.in_ok-records.ensures.records, c.requires.copy)
    (holds_invariant-shown _ _ _ _ _ _ _ (fits _ _ _ _ _ c.requires.fits) (rw (sym c.requires.copy) c.new-core.ensures) c.in_ok-records.ensures.seats)

pub returns-clause-rollout : goal.returns-clause-rollout
returns-clause-rollout g c =
    let parts = c.in_ok-history.ensures in
    rw (parts.roster, parts.history, parts.lists, c.new-deadlines.ensures, c.in_ok-records.ensures.records, c.requires.copy)
    (ap (λ (v : Routing). record { routing = v; spare = 0 })
    (shown-opened c.args.opening.now.strategy.now c.args.opening.now.name.now c.args.opening.now.ports.now c.args.opening.now.seats c.args.opening.now.limits c.in_ok-records.handed_out.items c.new-core.result (fits _ _ _ _ _ c.requires.fits) (rw (sym c.requires.copy) c.new-core.ensures) c.in_ok-records.ensures.seats))

pub returns-clause-seats : goal.returns-clause-seats
returns-clause-seats g c =
    let new = c.in_ok-records.ensures.seats in record {
      count_is = sym c.requires.count;
      new = new;
      all = ap (λ (n : ℕ). are_all n c.in_ok-records.handed_out.items) c.requires.count ∙ new_in_order c.args.opening.now.seats c.in_ok-records.handed_out.items new;
    }
