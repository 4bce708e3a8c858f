use Rattle.std.proofs.Common.{◌≡◌, Ok, Err, rules}
use Rattle.std.specs.Prelude.{MatchResult}
use Rattle.bg_operator.specs.declared.line_fault.LineFault.TheVariants.{BadNumber}
use Rattle.bg_operator.specs.Words.{number_reading}
use Rattle.bg_operator.proofs.WordNumbers.{parsed_number}
use Rattle.bg_operator.proofs.words.long_number.Goals as goal

pub returns : goal.returns
returns c =
    let parsed : MatchResult c.parse.result (λ n. number_reading 64 c.args.word.now ≡ Ok n) (λ e. number_reading 64 c.args.word.now ≡ Err BadNumber) = parsed_number c.args.word.now c.parse.result c.parse.ensures.value.0 (search rules) (search rules) in
    search rules
