use Rattle.std.proofs.Common.{◌≡◌, length, Some, None, lit<, arith, ap, ◌∙◌, rules}
use Rattle.std.proofs.lemmas.Str.Pattern.{split_parts}
use Rattle.bg_journal.specs.Words.{words_ahead, words_of}
use Rattle.bg_journal.proofs.LineWords.{first_word, only_word}
use Rattle.bg_journal.proofs.words.WordsIterator.next.Goals as goal

pub returns-in-Some-clause-steps : goal.returns-in-Some-clause-steps
returns-in-Some-clause-steps c =
    let here : words_ahead c.args.self.now ≡ words_of c.in_ok-rest.rest.now = search rules in
    let parts = split_parts 32 c.in_ok-rest.rest.now (Some (c.in-Some.word, c.in-Some.after)) c.in-Some.ensures.cases (lit< tt) in
    here ∙ first_word c.in_ok-rest.rest.now c.in-Some.word.now c.in-Some.after.now parts.0 parts.1

pub returns-in-Some-clause-goes : goal.returns-in-Some-clause-goes
returns-in-Some-clause-goes c =
    record { on = λ _. (tt, tt, omega (arith, ap length (returns-in-Some-clause-steps c))); keeps = tt; rests = λ _. tt }

pub returns-in-None-clause-steps : goal.returns-in-None-clause-steps
returns-in-None-clause-steps c =
    let here : words_ahead c.args.self.now ≡ words_of c.in_ok-rest.rest.now = search rules in
    here ∙ only_word c.in_ok-rest.rest.now (split_parts 32 c.in_ok-rest.rest.now None c.in-None.ensures.cases (lit< tt))

pub returns-in-None-clause-goes : goal.returns-in-None-clause-goes
returns-in-None-clause-goes c =
    record { on = λ _. (tt, tt, omega (arith, ap length (returns-in-None-clause-steps c))); keeps = tt; rests = λ _. tt }
