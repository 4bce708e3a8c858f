use Rattle.bg_history_laws.proofs.Compacted.Sounds.{sound}
use Rattle.bg_history_laws.proofs.compaction.is_sound.Goals as goal

pub returns : goal.returns
returns c = sound
