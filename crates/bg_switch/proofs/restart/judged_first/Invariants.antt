use Rattle.bg_ledger.specs.Picks.{names_of}
use Rattle.bg_switch.proofs.restart.judged_first.Given as goal

abbrev pub ghosts-stable_of : goal.ghosts-stable_of
ghosts-stable_of g a = names_of 1 a.blanks
