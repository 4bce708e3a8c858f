use Rattle.bg_ledger.specs.Picks.{names_of}
use Rattle.bg_tests.proofs.book.resuming.is_row.Given as goal

abbrev pub ghosts-resumed : goal.ghosts-resumed
ghosts-resumed a = names_of 4 a.blanks
