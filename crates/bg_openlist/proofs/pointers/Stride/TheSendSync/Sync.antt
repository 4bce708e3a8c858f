use denote.RattleType.{RattleType}
use denote.Param.Send.{IsSync}
use Rattle.bg_openlist.proofs.Strides.{is_shared}
use Rattle.bg_openlist.specs.contracts.pointers.Stride.{the_row}

pub sync : (R : RattleType) → IsSync (the_row R)
sync = is_shared
