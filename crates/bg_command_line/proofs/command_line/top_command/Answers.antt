use Rattle.std.proofs.Common.{◌∙◌, ap, true}
use Rattle.clap.specs.Simple.{App, app_of_fields}
use Rattle.clap.specs.declared.builder.command.Command.{Command}
use Rattle.clap.specs.declared.builder.command.Command.TheOpen.{Command-F}
use Rattle.bg_command_line.proofs.command_line.top_command.Goals as goal

pub returns : goal.returns
returns c =
    let named = ap app_of_fields c.about.ensures ∙ c.new.ensures.app in
    let with_version = ap app_of_fields c.version.ensures ∙ ap (λ (a : App). record a { top = record a.top { has_version = true } }) named in
    let with_notes = ap app_of_fields c.after_help.ensures ∙ with_version in
    ap app_of_fields c.disable_help_subcommand.ensures
    ∙ ap (λ (f : Command-F Command). app_of_fields (record f { disable_help_subcommand = true })) c.subcommand_required.ensures
    ∙ ap (λ (a : App). record a { top = record a.top { disable_help_subcommand = true; subcommand_required = true } }) with_notes
