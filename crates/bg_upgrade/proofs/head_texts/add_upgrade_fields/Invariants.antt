use Rattle.std.proofs.Common.{◌≡◌, ◌++◌, flat_map}
use Rattle.bg_http.specs.Texts.{field_line}
use Rattle.bg_upgrade.specs.HeadTexts.{upgrade_fields}
use Rattle.bg_upgrade.proofs.head_texts.add_upgrade_fields.Given as goal

abbrev pub invariant-loop-field : goal.invariant-loop-field
invariant-loop-field l =
    l.text.items ++ flat_map field_line (upgrade_fields l.field-iterator)
    ≡ l.fn.text.items ++ flat_map field_line (upgrade_fields l.fields)
