use denote.RattleType.{RattleType}
use denote.Param.Laws.{Laws}
use Rattle.bg_openlist.proofs.Strides.{is_lent}
use Rattle.bg_openlist.proofs.pointers.Stride.TheLaw.Statement.{statement}

pub shares : (R : RattleType) (L : Laws R) → statement R L
shares R L = is_lent R
