use Rattle.bg_ledger.specs.Picks.{names_of}
use Rattle.bg_tests.proofs.book.openings.fault.Given as goal

abbrev pub ghosts-fault_of : goal.ghosts-fault_of
ghosts-fault_of a = names_of a.seats a.blanks
