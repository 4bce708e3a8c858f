use Rattle.std.proofs.Common.{◌≡◌, [], ◌∷◌, Err, inl, sym, ap, ◌∙◌, rules}
use Rattle.bg_operator.specs.declared.line_fault.LineFault.TheVariants.{Empty}
use Rattle.bg_operator.specs.Words.{words_ahead, words_of}
use Rattle.bg_operator.proofs.LineReadings.{read_by_bytes, read_by_words}
use Rattle.bg_operator.proofs.parsing.parse_line.Goals as goal

pub returns-in_err-plain_text : goal.returns-in_err-plain_text
returns-in_err-plain_text c =
    let told : c.from_residual.result ≡ Err c.in_err-plain_text.field-0.0 = search rules in
    inl (told ∙ sym (read_by_bytes c.args.line.now c.in_err-plain_text.field-0.0 c.in_err-plain_text.ensures))

pub returns-in_err-first : goal.returns-in_err-first
returns-in_err-first c =
    let none : words_ahead c.new-words.result ≡ [] = search rules in
    let words : words_of c.args.line.now ≡ [] =
    ap words_of (sym c.in_ok-plain_text.ensures.1) ∙ sym c.new-words.ensures ∙ none in
    let told : c.from_residual-in_err-first.result ≡ Err Empty = search rules in
    inl (told ∙ sym (read_by_words c.args.line.now [] c.in_ok-plain_text.ensures.0 words))

pub returns : goal.returns
returns c =
    let all = c.in_ok-first.first.now ∷ words_ahead c.next.new.self in
    let some : words_ahead c.new-words.result ≡ all = search rules in
    let words : words_of c.args.line.now ≡ all =
    ap words_of (sym c.in_ok-plain_text.ensures.1) ∙ sym c.new-words.ensures ∙ some in
    rw (read_by_words c.args.line.now all c.in_ok-plain_text.ensures.0 words) c.command.ensures
