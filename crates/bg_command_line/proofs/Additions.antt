-- A command to which arguments and subcommands are added, one after the other.
use Rattle.std.proofs.Common.{◌≡◌, ◌∙◌, ◌∷◌, [], ap, ap₂, sym, false}
use Rattle.clap.specs.Words.{AddsArg, AddsInTurn, AddsSubcommand, App, Rule, app_of, rule_of, with_rule, with_subcommand}
use Rattle.clap.specs.declared.builder.arg.Arg.{Arg}
use Rattle.clap.specs.declared.builder.command.Command.{Command}
use Rattle.clap.specs.declared.builder.command.Command.TheViews.{out-Command}

-- the command's rules are the previous ones and the argument's
pub rule_added : (old new : Command) (a : Arg) (before : App) (rule : Rule) → AddsArg old a new
    → app_of old ≡ before → rule_of a ≡ rule → a.global ≡ false → app_of new ≡ with_rule before rule
rule_added old new a before rule adds was is local = adds.shape local ∙ ap₂ with_rule was is

-- the command's subcommands are the previous ones and the subcommand
pub subcommand_added : (old new sub : Command) (before inner : App) → AddsSubcommand old sub new
    → app_of old ≡ before → app_of sub ≡ inner → (out-Command sub).has_globals ≡ false
    → app_of new ≡ with_subcommand before inner.top
subcommand_added old new sub before inner adds was is local =
    adds.shape local ∙ ap₂ with_subcommand was (ap (λ (a : App). a.top) is)

-- the command's subcommands are the previous ones and four more
pub four_added : (old new first second third fourth : Command) (before a b c d : App)
    → AddsInTurn AddsSubcommand old (first ∷ second ∷ third ∷ fourth ∷ []) new → app_of old ≡ before
    → app_of first ≡ a → (out-Command first).has_globals ≡ false
    → app_of second ≡ b → (out-Command second).has_globals ≡ false
    → app_of third ≡ c → (out-Command third).has_globals ≡ false
    → app_of fourth ≡ d → (out-Command fourth).has_globals ≡ false
    → app_of new ≡ with_subcommand (with_subcommand (with_subcommand (with_subcommand before a.top) b.top) c.top) d.top
four_added old new first second third fourth before a b c d adds was first_is first_local second_is second_local third_is third_local
    fourth_is fourth_local =
    let with_first = subcommand_added old adds.0 first before a adds.1 was first_is first_local in
    let with_second = subcommand_added adds.0 adds.2.0 second _ b adds.2.1 with_first second_is second_local in
    let with_third = subcommand_added adds.2.0 adds.2.2.0 third _ c adds.2.2.1 with_second third_is third_local in
    let with_fourth = subcommand_added adds.2.2.0 adds.2.2.2.0 fourth _ d adds.2.2.2.1 with_third fourth_is fourth_local in
    ap app_of (sym adds.2.2.2.2) ∙ with_fourth
