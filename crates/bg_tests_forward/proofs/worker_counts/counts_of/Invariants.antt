use Rattle.bg_ledger.specs.Picks.{names_of}
use Rattle.bg_tests_forward.proofs.worker_counts.counts_of.Given as goal

abbrev pub ghosts-open_and_work_both : goal.ghosts-open_and_work_both
ghosts-open_and_work_both g a = names_of 2 a.blanks
