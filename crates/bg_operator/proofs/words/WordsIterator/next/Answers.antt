use Rattle.std.proofs.Common.{◌≡◌, ◌<◌, ◌∷◌, length, Some, None, lit<, arith, sym, ap, ◌∙◌}
use Rattle.std.proofs.lemmas.Bool.Decides.{nat_tests}
use Rattle.std.proofs.lemmas.Str.Pattern.{split_parts}
use Rattle.bg_operator.proofs.LineWords.{first_word, no_first_word, only_word, no_word, none_left}
use Rattle.bg_operator.proofs.words.WordsIterator.next.Goals as goal

pub returns-then-not-is_empty-clause-steps : goal.returns-then-not-is_empty-clause-steps
returns-then-not-is_empty-clause-steps c =
    let parts = split_parts 32 c.loop-word.self.rest.now (Some (c.in-Some.word, c.in-Some.rest)) c.in-Some.ensures.cases (lit< tt) in
    let some : 0 < length c.in-Some.word.now = grind (arith, nat_tests) in
    c.loop-word.invariant ∙ first_word c.loop-word.self.rest.now c.in-Some.word.now c.in-Some.rest.now parts.0 parts.1 some

pub returns-then-not-is_empty-clause-goes : goal.returns-then-not-is_empty-clause-goes
returns-then-not-is_empty-clause-goes c =
    record { on = λ _. (tt, tt, omega (arith, ap length (returns-then-not-is_empty-clause-steps c))); keeps = tt; rests = λ _. tt }

pub loop-word-preserved : goal.loop-word-preserved
loop-word-preserved c =
    let parts = split_parts 32 c.loop-word.self.rest.now (Some (c.in-Some.word, c.in-Some.rest)) c.in-Some.ensures.cases (lit< tt) in
    let none : length c.in-Some.word.now ≡ 0 = grind (arith, nat_tests) in
    c.loop-word.invariant ∙ no_first_word c.loop-word.self.rest.now c.in-Some.word.now c.in-Some.rest.now parts.0 parts.1 none

pub returns-then-is_empty-clause-steps : goal.returns-then-is_empty-clause-steps
returns-then-is_empty-clause-steps c =
    let free = split_parts 32 c.loop-word.self.rest.now None c.in_default.ensures.cases (lit< tt) in
    let none : length c.loop-word.self.rest.now ≡ 0 = grind (arith, nat_tests) in
    (c.loop-word.invariant ∙ no_word c.loop-word.self.rest.now free none, none_left)

pub returns-else-is_empty-clause-steps : goal.returns-else-is_empty-clause-steps
returns-else-is_empty-clause-steps c =
    let free = split_parts 32 c.loop-word.self.rest.now None c.in_default.ensures.cases (lit< tt) in
    let some : 0 < length c.loop-word.self.rest.now = grind (arith, nat_tests) in
    c.loop-word.invariant ∙ only_word c.loop-word.self.rest.now free some ∙ ap (λ words. c.loop-word.self.rest.now ∷ words) (sym none_left)

pub returns-else-is_empty-clause-goes : goal.returns-else-is_empty-clause-goes
returns-else-is_empty-clause-goes c =
    record { on = λ _. (tt, tt, omega (arith, ap length (returns-else-is_empty-clause-steps c))); keeps = tt; rests = λ _. tt }
