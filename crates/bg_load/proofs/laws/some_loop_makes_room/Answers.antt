use Rattle.bg_load.proofs.RoomLemmas.{some_loop_makes_room}
use Rattle.bg_load.proofs.laws.some_loop_makes_room.Goals as goal

pub returns : goal.returns
returns c = some_loop_makes_room
