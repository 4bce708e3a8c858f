use Rattle.std.proofs.Common.{◌≡◌, ◌++◌}
use Rattle.bg_upgrade.specs.HeadTexts.{upgrade_fields}
use Rattle.bg_event_loop.proofs.origin.add_upgrade_fields.Given as goal

abbrev pub invariant-loop-field : goal.invariant-loop-field
invariant-loop-field l =
    l.told ++ upgrade_fields l.field-iterator ≡ l.fn.told ++ upgrade_fields l.fields
