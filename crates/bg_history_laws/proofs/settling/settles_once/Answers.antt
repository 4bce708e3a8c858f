use Rattle.bg_history_laws.proofs.Ended.Once.{settles, step-once}
use Rattle.bg_history_laws.proofs.settling.settles_once.Goals as goal

pub returns-clause-some : goal.returns-clause-some
returns-clause-some c s e past = settles (λ p. c.existing_ascends.ensures p) s e past

pub returns-clause-one : goal.returns-clause-one
returns-clause-one c s e past outcomes others new other = step-once s e past outcomes others new other
