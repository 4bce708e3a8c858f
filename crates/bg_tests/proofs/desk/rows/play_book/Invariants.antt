use Rattle.bg_ledger.specs.Picks.{names_of}
use Rattle.bg_tests.proofs.desk.rows.play_book.Given as goal

abbrev pub ghosts-play_at_book : goal.ghosts-play_at_book
ghosts-play_at_book a = names_of 4 a.blanks
