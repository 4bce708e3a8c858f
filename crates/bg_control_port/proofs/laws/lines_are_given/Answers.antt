use Rattle.bg_control_port.proofs.GivenInOrder.{lines_are_given}
use Rattle.bg_control_port.proofs.laws.lines_are_given.Goals as goal

pub returns : goal.returns
returns g c = lines_are_given
