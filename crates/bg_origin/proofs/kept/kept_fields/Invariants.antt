use Rattle.std.proofs.Common.{◌≡◌, ◌++◌}
use Rattle.std.specs.Prelude.{filter}
use Rattle.bg_origin.specs.OriginFields.{goes_on}
use Rattle.bg_origin.proofs.kept.kept_fields.Given as goal

abbrev pub invariant-loop-field : goal.invariant-loop-field
invariant-loop-field l =
    (l.yielded ++ l.field-iterator ≡ l.fields)
    × (l.kept ≡ filter (goes_on l.fn.trusts_client l.fields) l.yielded)
