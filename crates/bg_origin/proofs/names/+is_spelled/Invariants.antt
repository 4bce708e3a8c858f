use Rattle.std.proofs.Common.{length}
use Rattle.bg_origin.proofs.names.+is_spelled.Given as goal

abbrev pub decreases-is_spelled : goal.decreases-is_spelled
decreases-is_spelled l = length l.name.now
