use Rattle.std.proofs.Common.{length, ap, ◌∙◌, slice_get}
use Rattle.bg_history.specs.Sizes.{existing}
use Rattle.bg_rollout.specs.State.{deadline_at, open_count_at, revision_at}
use Rattle.bg_rollout.proofs.WholeStates.Telling.{as_many, deadline_told, each_revision, open_told}
use Rattle.bg_rollout.proofs.laws.state_tells.Goals as goal

pub returns-clause-count : goal.returns-clause-count
returns-clause-count c b represents =
    ap (λ t. length t.revisions) represents.running ∙ as_many b.strategy b.opening b.past (existing b.past)

pub returns-clause-revisions : goal.returns-clause-revisions
returns-clause-revisions c b represents place =
    ap (λ t. revision_at t place) represents.running
    ∙ ap (λ vs. slice_get vs place) (each_revision b.strategy b.opening b.past (existing b.past))

pub returns-clause-deadlines : goal.returns-clause-deadlines
returns-clause-deadlines c b represents r =
    ap (λ t. deadline_at t r) represents.running
    ∙ deadline_told b.strategy b.opening b.past r (c.table_tells_deadlines.ensures b.strategy b.past r)
    ((c.reachable.ensures b.strategy b.opening b.past represents.legal.allowed).marked_exists r)

pub returns-clause-open : goal.returns-clause-open
returns-clause-open c b represents r =
    ap (λ t. open_count_at t r) represents.running
    ∙ open_told b.strategy b.opening b.past r (c.reachable.ensures b.strategy b.opening b.past represents.legal.allowed).open_scaled
