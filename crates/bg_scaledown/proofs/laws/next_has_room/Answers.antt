use Rattle.bg_scaledown.proofs.Few.{next-has_room}
use Rattle.bg_scaledown.proofs.laws.next_has_room.Goals as goal

pub returns : goal.returns
returns c s past next invariant active unmarked newest few =
    next-has_room s past next invariant (c.existing_ascends.ensures past) active unmarked newest few
