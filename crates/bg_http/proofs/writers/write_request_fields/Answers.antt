use Rattle.std.proofs.Common.{sym, ◌∙◌}
use Rattle.std.specs.Prelude.{filter, flat_map, not}
use Rattle.std.specs.Io.KnownBytes.{Appends}
use Rattle.bg_http.specs.Removed.{is_removed_from_request}
use Rattle.bg_http.specs.Texts.{field_line}
use Rattle.bg_http.proofs.FieldLoops.{all_done, skipped}
use Rattle.bg_http.proofs.writers.write_request_fields.Goals as goal

pub loop-field-preserved : goal.loop-field-preserved
loop-field-preserved g c =
    skipped (is_removed_from_request c.args.fields.now) c.loop-field.yielded c.loop-field.field-iterator c.next.new.self c.args.fields.now
    c.in-Some.field (g.W.Write.contents c.args.writer.now) (g.W.Write.contents c.loop-field.writer)
    c.loop-field.invariant.0 c.in-Some.ensures.steps (sym c.is_removed_from_request.ensures ∙ c.if-not-is_removed_from_request.false)
    c.loop-field.invariant.1

pub returns : goal.returns
returns g c =
    let first = g.W.Write.contents c.args.writer.now in
    let now = g.W.Write.contents c.loop-field.writer in
    all_done (λ l. Appends first now (flat_map field_line (filter (λ f. not (is_removed_from_request c.args.fields.now f)) l)))
    c.loop-field.yielded c.loop-field.field-iterator c.args.fields.now
    c.loop-field.invariant.0 c.in-None.ensures.steps.0 c.loop-field.invariant.1
