use Rattle.bg_ledger.specs.Picks.{names_of}
use Rattle.bg_tests.proofs.desk.threads.with_new_names.Given as goal

abbrev pub ghosts-open_and_work : goal.ghosts-open_and_work
ghosts-open_and_work g a = names_of a.plan.seats a.blanks
