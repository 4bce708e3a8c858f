use Rattle.bg_ledger.specs.Picks.{names_of}
use Rattle.bg_switch.proofs.book_opener.answer_opener.Given as goal

abbrev pub ghosts-open_and_serve : goal.ghosts-open_and_serve
ghosts-open_and_serve g a = names_of a.context.now.serve.now.seats a.blanks
