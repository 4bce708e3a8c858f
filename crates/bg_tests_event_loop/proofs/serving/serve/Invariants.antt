use Rattle.bg_ledger.specs.Picks.{names_of}
use Rattle.bg_tests_event_loop.proofs.serving.serve.Given as goal

abbrev pub ghosts-open_and_serve : goal.ghosts-open_and_serve
ghosts-open_and_serve g a = names_of 4 a.blanks
