use Rattle.std.proofs.Common.{◌≡◌, ◌∷◌, Ok, rules}
use Rattle.bg_operator.specs.Words.{number_reading, words_ahead}
use Rattle.bg_operator.proofs.TimeLimits.{read_after_limit}
use Rattle.bg_operator.proofs.before.before.Goals as goal

pub returns : goal.returns
returns c =
    let limit = c.in_ok-limit.limit.now in
    let first = c.in_ok-first.first.now in
    let rest = words_ahead c.next-2.new.self in
    let words : words_ahead c.args.words ≡ limit ∷ first ∷ rest = search rules in
    let number : number_reading 64 limit ≡ Ok c.in_ok-long_number.field-0 = search rules in
    rw words (rw (read_after_limit limit first rest c.in_ok-long_number.field-0 number) at c.event_before.ensures)
