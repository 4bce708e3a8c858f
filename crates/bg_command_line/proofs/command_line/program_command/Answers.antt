use Rattle.std.proofs.Common.{◌∙◌, ◌∷◌, [], ◌++◌, List, ap, subst}
use Rattle.std.proofs.lemmas.Result.{IfOk-weaker}
use Rattle.clap.specs.Words.{AddsInTurn, AddsSubcommand}
use Rattle.clap.specs.declared.builder.command.Command.{Command}
use Rattle.bg_command_line.proofs.Additions.{four_added}
use Rattle.bg_command_line.proofs.command_line.program_command.Goals as goal

pub returns : goal.returns
returns c =
    let check = c.check_command in
    let replay = c.in_ok-replay_command in
    let journal = c.in_ok-journal_command in
    let serve = c.in_ok-serve_command in
    let one = c.in_ok-push.ensures.items ∙ ap (λ (l : List Command). l ++ check.result ∷ []) c.in_ok-subcommands.ensures.items in
    let two = c.in_ok-push-2.ensures.items ∙ ap (λ (l : List Command). l ++ replay.field-0 ∷ []) one in
    let three = c.in_ok-push-3.ensures.items ∙ ap (λ (l : List Command). l ++ journal.field-0 ∷ []) two in
    let all = c.in_ok-push-4.ensures.items ∙ ap (λ (l : List Command). l ++ serve.field-0 ∷ []) three in
    IfOk-weaker c.subcommands.result _ _
    (λ made adds. four_added c.top_command.result made check.result replay.field-0 journal.field-0 serve.field-0 _ _ _ _ _
    (subst (λ (l : List Command). AddsInTurn AddsSubcommand c.top_command.result l made) all adds)
    c.top_command.ensures check.ensures.app check.ensures.local replay.ensures.app replay.ensures.local
    journal.ensures.app journal.ensures.local serve.ensures.app serve.ensures.local)
    c.subcommands.ensures
