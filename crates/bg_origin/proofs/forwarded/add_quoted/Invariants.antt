use Rattle.std.proofs.Common.{◌≡◌, ◌++◌}
use Rattle.std.specs.Prelude.{take}
use Rattle.bg_origin.specs.Forwardeds.{quoted}
use Rattle.bg_origin.proofs.forwarded.add_quoted.Given as goal

abbrev pub invariant-loop-byte : goal.invariant-loop-byte
invariant-loop-byte l = l.value.items ≡ l.initial.value.items ++ quoted (take l.byte-index l.text)
