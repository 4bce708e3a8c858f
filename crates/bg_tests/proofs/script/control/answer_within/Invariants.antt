use Rattle.bg_ledger.specs.Picks.{names_of}
use Rattle.bg_tests.proofs.script.control.answer_within.Given as goal

abbrev pub ghosts-answer : goal.ghosts-answer
ghosts-answer g a = names_of 1 a.blanks
