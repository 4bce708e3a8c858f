use Rattle.std.proofs.Common.{◌≡◌, ◌++◌}
use Rattle.std.specs.Prelude.{flat_map, filter, not}
use Rattle.std.specs.Io.KnownBytes.{Appends}
use Rattle.bg_http.specs.Removed.{is_removed}
use Rattle.bg_http.specs.Texts.{field_line}
use Rattle.bg_http.proofs.writers.write_response_fields.Given as goal

abbrev pub invariant-loop-field : goal.invariant-loop-field
invariant-loop-field g l =
    (l.yielded ++ l.field-iterator ≡ l.fields)
    × Appends (g.W.Write.contents l.fn.writer) (g.W.Write.contents l.writer)
    (flat_map field_line (filter (λ f. not (is_removed l.fields f)) l.yielded))
