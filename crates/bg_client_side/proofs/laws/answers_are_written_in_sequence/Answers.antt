use Rattle.bg_client_side.proofs.RunLemmas.{written_in_sequence}
use Rattle.bg_client_side.proofs.laws.answers_are_written_in_sequence.Goals as goal

pub returns : goal.returns
returns c calls old new = written_in_sequence calls old new
