use Rattle.bg_rollout.proofs.WholeStates.Compacting.{lists-same, revisions-same, routing-holds_invariant, states-same}
use Rattle.bg_rollout.proofs.laws.compaction_keeps.Goals as goal

pub returns-clause-holds_invariant : goal.returns-clause-holds_invariant
returns-clause-holds_invariant c = λ b h. routing-holds_invariant c.keeps_table.ensures b (c.compacts.ensures b.strategy b.opening b.closed b.past h.legal) h

pub returns-clause-lists : goal.returns-clause-lists
returns-clause-lists c = lists-same

pub returns-clause-revisions : goal.returns-clause-revisions
returns-clause-revisions c = revisions-same

pub returns-clause-states : goal.returns-clause-states
returns-clause-states c = states-same
