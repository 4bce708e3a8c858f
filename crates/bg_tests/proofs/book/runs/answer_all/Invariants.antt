use Rattle.bg_ledger.specs.Picks.{names_of}
use Rattle.bg_tests.proofs.book.runs.answer_all.Given as goal

abbrev pub ghosts-run_calls : goal.ghosts-run_calls
ghosts-run_calls a = names_of 4 a.blanks
