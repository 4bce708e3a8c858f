use Rattle.std.proofs.Common.{◌∙◌, ◌+◌, ◌||◌, List, ap, ap₂, drop, fold, map, refl, sym}
use Rattle.std.proofs.lemmas.List.{at_drop_more, drop_all}
use Rattle.clap.specs.Words.{App, app_of, with_rule}
use Rattle.bg_command_line.specs.OptionRules.{option_rule}
use Rattle.bg_command_line.specs.declared.command_option.CommandOption.{CommandOption}
use Rattle.bg_command_line.proofs.Additions.{rule_added}
use Rattle.bg_command_line.proofs.command_option.with_options.Goals as goal

pub loop-option-preserved : goal.loop-option-preserved
loop-option-preserved c =
    let at = c.loop-option in
    let options = c.args.options.now in
    let added = rule_added at.command c.in_ok-command.command c.argument.result _ _ c.in_ok-command.ensures refl c.argument.ensures.rule c.argument.ensures.local in
    let left = at_drop_more (λ (xs : List CommandOption). fold with_rule (app_of at.command) (map option_rule xs)) options at.option-index _ c.loop-option-test.true in (
      ap (λ (a : App). fold with_rule a (map option_rule (drop (at.option-index + 1) options))) added ∙ sym left ∙ at.invariant.0,
      c.in_ok-command.ensures.globals ∙ ap₂ (λ a b. a || b) at.invariant.1 c.argument.ensures.local,
    )

pub returns-clause-app : goal.returns-clause-app
returns-clause-app c =
    let at = c.loop-option in
    ap (λ (xs : List CommandOption). fold with_rule (app_of at.command) (map option_rule xs)) (sym (drop_all at.option-index c.args.options.now c.loop-option-test.false))
    ∙ at.invariant.0
