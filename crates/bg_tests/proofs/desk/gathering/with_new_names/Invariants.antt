use Rattle.bg_ledger.specs.Picks.{names_of}
use Rattle.bg_tests.proofs.desk.gathering.with_new_names.Given as goal

abbrev pub ghosts-gather_often : goal.ghosts-gather_often
ghosts-gather_often g a = names_of 2 a.blanks
