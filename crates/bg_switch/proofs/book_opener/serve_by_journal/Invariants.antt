use Rattle.bg_ledger.specs.Picks.{names_of}
use Rattle.bg_switch.proofs.book_opener.serve_by_journal.Given as goal

abbrev pub ghosts-resume_and_serve : goal.ghosts-resume_and_serve
ghosts-resume_and_serve g a = names_of a.context.now.seats a.blanks
