use Rattle.bg_ledger.specs.Picks.{names_of}
use Rattle.bg_tests_forward.proofs.many_requests.with_new_names.Given as goal

abbrev pub ghosts-pass : goal.ghosts-pass
ghosts-pass g a = names_of 1 a.blanks
