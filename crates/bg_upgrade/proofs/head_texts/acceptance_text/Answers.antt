use Rattle.std.proofs.Common.{◌++◌, ap, sym, ◌∙◌}
use Rattle.bg_http.specs.Texts.{response_head_text}
use Rattle.bg_http.specs.declared.body_end.BodyEnd.TheVariants as end
use Rattle.std.proofs.Common.{true}
use Rattle.bg_upgrade.specs.HeadTexts.{upgrade_lines}
use Rattle.bg_upgrade.proofs.TextLemmas.{accepted, on_success}
use Rattle.bg_upgrade.proofs.head_texts.acceptance_text.Goals as goal

pub returns : goal.returns
returns c =
    let response = c.bare_response-response.result in
    c.in_ok-add_upgrade_lines.ensures
    ∙ ap (λ l. l ++ upgrade_lines response.fields) c.reopen.ensures
    ∙ accepted c.args.head response c.write_response_head.new.writer.items c.bare_response-response.ensures
    (on_success c.write_response_head.result _ (sym c.is_err.ensures.value ∙ c.if-is_err.false) c.write_response_head.ensures
    ∙ ap (λ l. l ++ response_head_text true end.Length response) c.in_ok-text.ensures.items)
