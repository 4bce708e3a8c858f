use Rattle.std.proofs.Common.{refl, rules, tests}
use Rattle.std.proofs.lemmas.Iterator.Consumers.{YieldsList-from_first}
use Rattle.std.proofs.lemmas.Iterator.Search.{all_from_yields_List}
use Rattle.bg_journal.specs.Words.{is_number, words_ahead}
use Rattle.bg_journal.proofs.WordNumbers.{has_number}
use Rattle.bg_journal.proofs.entry_line.are_ports.Goals as goal

pub returns : goal.returns
returns c =
    all_from_yields_List (is_number 16) c.all.new.self _ _ c.all.ensures.ran
    (YieldsList-from_first (λ x. x.now) words_ahead {s = c.args.words} (words_ahead c.args.words) refl) (λ x b q k. search (rules, tests, has_number 16 x.now))
