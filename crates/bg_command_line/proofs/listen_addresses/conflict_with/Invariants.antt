use Rattle.std.proofs.Common.{take}
use Rattle.std.specs.Prelude.{All}
use Rattle.bg_command_line.specs.ListenAddresses.{AreInConflict}
use Rattle.bg_command_line.proofs.listen_addresses.conflict_with.Given as goal

-- none of the addresses so far is in conflict
abbrev pub invariant-loop-other : goal.invariant-loop-other
invariant-loop-other l = All (λ other. AreInConflict other l.address → ⊥) (take l.other-index l.before)
