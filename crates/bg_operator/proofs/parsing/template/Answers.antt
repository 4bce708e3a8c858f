use Rattle.std.proofs.Common.{◌≡◌, ◌<◌, ◌∷◌, true, false, length, None, Some, if◌then◌else◌, ap, ◌∙◌, arith, rules}
use Rattle.std.specs.List.{list_all}
use Rattle.std.proofs.lemmas.Bool.Decides.{nat_tests}
use Rattle.bg_operator.specs.declared.line_fault.LineFault.TheVariants.{BadNumber}
use Rattle.bg_operator.specs.Words.{is_number, words_ahead}
use Rattle.bg_operator.specs.Shapes.{shape_fault}
use Rattle.bg_operator.specs.Commands.{template_shape}
use Rattle.bg_operator.proofs.LineReadings.{fault_of_ports}
use Rattle.bg_operator.proofs.parsing.template.Goals as goal

pub returns-then-not-are_ports : goal.returns-then-not-are_ports
returns-then-not-are_ports c =
    let words : words_ahead c.args.words ≡ c.in_ok-name.name.now ∷ words_ahead c.next.new.self = search rules in
    let some : 0 < length (words_ahead c.next.new.self) = grind (arith, nat_tests) in
    let bad : list_all (is_number 16) (words_ahead c.next.new.self) ≡ false = search rules in
    ap (shape_fault template_shape) words
    ∙ fault_of_ports c.in_ok-name.name.now (words_ahead c.next.new.self) some
    ∙ ap (λ t. if t then None else Some BadNumber) bad

pub returns : goal.returns
returns c =
    let words : words_ahead c.args.words ≡ c.in_ok-name.name.now ∷ words_ahead c.next.new.self = search rules in
    let some : 0 < length (words_ahead c.next.new.self) = grind (arith, nat_tests) in
    let good : list_all (is_number 16) (words_ahead c.next.new.self) ≡ true = search rules in (
      ap (shape_fault template_shape) words
          ∙ fault_of_ports c.in_ok-name.name.now (words_ahead c.next.new.self) some
          ∙ ap (λ t. if t then None else Some BadNumber) good,
      words,
      good,
    )
