use Rattle.std.proofs.Common.{◌≡◌, false, fold, map, drop}
use Rattle.clap.specs.Words.{app_of, with_rule}
use Rattle.clap.specs.declared.builder.command.Command.TheViews.{out-Command as fields_of}
use Rattle.bg_command_line.specs.OptionRules.{option_rule}
use Rattle.bg_command_line.proofs.command_option.with_options.Given as goal

abbrev pub invariant-loop-option : goal.invariant-loop-option
invariant-loop-option l =
    (fold with_rule (app_of l.command) (map option_rule (drop l.option-index l.options))
    ≡ fold with_rule (app_of l.initial.command) (map option_rule l.options))
    × ((fields_of l.command).has_globals ≡ false)
