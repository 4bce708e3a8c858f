use Rattle.bg_ledger.specs.Picks.{names_of}
use Rattle.bg_tests_refused_memory.proofs.books.visit_with_new_names.Given as goal

abbrev pub ghosts-visit_with_names : goal.ghosts-visit_with_names
ghosts-visit_with_names g a = names_of a.opening.now.seats a.blanks
