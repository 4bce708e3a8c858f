use Rattle.bg_rollout.proofs.SeatRecords.Sequence.{gathered}
use Rattle.bg_rollout.proofs.laws.gathers.Goals as goal

pub returns : goal.returns
returns c = gathered
