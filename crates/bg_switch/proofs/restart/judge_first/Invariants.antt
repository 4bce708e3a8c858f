use Rattle.bg_ledger.specs.Picks.{names_of}
use Rattle.bg_switch.proofs.restart.judge_first.Given as goal

abbrev pub ghosts-judge_opening : goal.ghosts-judge_opening
ghosts-judge_opening a = names_of 1 a.blanks
