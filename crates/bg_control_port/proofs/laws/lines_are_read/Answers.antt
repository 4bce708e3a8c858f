use Rattle.bg_control_port.proofs.AheadLemmas.{lines_are_read}
use Rattle.bg_control_port.proofs.laws.lines_are_read.Goals as goal

pub returns : goal.returns
returns g c = lines_are_read
