use denote.RattleType.{RattleType}
use denote.Param.Send.{IsSend}
use Rattle.bg_openlist.proofs.Strides.{crosses}
use Rattle.bg_openlist.specs.contracts.pointers.Stride.{the_row}

pub send : (R : RattleType) → IsSend (the_row R)
send = crosses
