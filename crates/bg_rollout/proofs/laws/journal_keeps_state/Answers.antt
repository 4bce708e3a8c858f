use Rattle.bg_rollout.proofs.WholeStates.Journaling.{state-kept}
use Rattle.bg_rollout.proofs.laws.journal_keeps_state.Goals as goal

pub returns : goal.returns
returns c s o closed past seats legal = state-kept s o closed seats past (c.journals.ensures s o closed past legal)
