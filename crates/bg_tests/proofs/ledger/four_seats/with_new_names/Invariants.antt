use Rattle.bg_ledger.specs.Picks.{names_of}
use Rattle.bg_tests.proofs.ledger.four_seats.with_new_names.Given as goal

abbrev pub ghosts-work_four_seats : goal.ghosts-work_four_seats
ghosts-work_four_seats g a = names_of 4 a.blanks
