use Rattle.bg_ledger.specs.Picks.{names_of}
use Rattle.bg_tests.proofs.book.many_seats.replies.Given as goal

abbrev pub ghosts-replies_of : goal.ghosts-replies_of
ghosts-replies_of a = names_of a.count a.blanks
