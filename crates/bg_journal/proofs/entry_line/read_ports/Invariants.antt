use Rattle.std.proofs.Common.{◌≡◌, true, ◌++◌, map}
use Rattle.std.specs.List.{list_all}
use Rattle.std.specs.Str.Parse.{digits_value}
use Rattle.bg_journal.specs.Words.{is_number, words_ahead}
use Rattle.bg_journal.proofs.entry_line.read_ports.Given as goal

abbrev pub invariant-loop-word : goal.invariant-loop-word
invariant-loop-word l =
    (l.numbers.items ++ map (digits_value 10) (words_ahead l.word-iterator) ≡ map (digits_value 10) (words_ahead l.words))
    × (list_all (is_number 16) (words_ahead l.word-iterator) ≡ true)
