use Rattle.std.proofs.Common.{◌∙◌, arith, sym}
use Rattle.std.proofs.lemmas.List.{at_drop_all}
use Rattle.bg_endpoint_side.proofs.VersionLemmas.{awaited_none}
use Rattle.bg_endpoint_side.specs.Versions.{awaited}
use Rattle.bg_endpoint_side.proofs.version.left_after.Goals as goal

pub returns : goal.returns
returns c =
    sym (awaited_none c.loop-byte.left.now)
    ∙ sym (at_drop_all (awaited c.loop-byte.left.now) c.args.bytes.now c.loop-byte.byte-index (omega (arith, c.loop-byte-test.false)))
    ∙ c.loop-byte.invariant
