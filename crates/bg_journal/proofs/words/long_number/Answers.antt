use Rattle.std.proofs.Common.{◌∙◌, rules}
use Rattle.bg_journal.proofs.WordNumbers.{parsed_number}
use Rattle.bg_journal.proofs.words.long_number.Goals as goal

pub returns : goal.returns
returns c =
    c.ok.ensures.value
    ∙ parsed_number c.args.word.now c.parse.result c.parse.ensures.value.0 (search rules) (search rules)
