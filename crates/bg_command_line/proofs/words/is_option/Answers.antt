use Rattle.std.proofs.Common.{◌≡◌, ◌∙◌, ap, sym, false, ◌||◌}
use Rattle.std.specs.Prelude.{Bool, bytes_eq, eqb}
use Rattle.std.specs.List.{starts_with}
use Rattle.std.proofs.lemmas.Str.Pattern.{starts_text}
use Rattle.bg_command_line.proofs.words.is_option.Goals as goal

pub returns-else-eq : goal.returns-else-eq
returns-else-eq c =
    let word = c.args.word.now in
    let start = c.args.start.now in
    let is_other : bytes_eq word c.args.option.now ≡ false = sym c.eq.ensures ∙ c.if-eq.false in
    starts_text c.starts_with.result start word c.starts_with.ensures.cases
    ∙ ap (λ (b : Bool). b || starts_with eqb word start) (sym is_other)
