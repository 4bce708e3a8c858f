use Rattle.std.proofs.Common.{◌≡◌, drop}
use Rattle.bg_endpoint_side.specs.Versions.{awaited}
use Rattle.bg_endpoint_side.proofs.version.left_after.Given as goal

-- what is to come of what is left after the other bytes is what is to come of the text after all
abbrev pub invariant-loop-byte : goal.invariant-loop-byte
invariant-loop-byte l = awaited l.left (drop l.byte-index l.bytes) ≡ awaited l.fn.text l.fn.bytes
