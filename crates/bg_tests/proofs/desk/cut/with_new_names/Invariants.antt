use Rattle.bg_ledger.specs.Picks.{names_of}
use Rattle.bg_tests.proofs.desk.cut.with_new_names.Given as goal

abbrev pub ghosts-tell_at : goal.ghosts-tell_at
ghosts-tell_at g a = names_of 4 a.blanks
