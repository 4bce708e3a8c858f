use Rattle.bg_control_port.proofs.AheadLemmas.{the_end_keeps_lines}
use Rattle.bg_control_port.proofs.laws.the_end_keeps_lines.Goals as goal

pub returns : goal.returns
returns g c = the_end_keeps_lines
