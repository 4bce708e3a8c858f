use Rattle.bg_ledger.specs.Picks.{names_of}
use Rattle.bg_switch.proofs.restart.put_in_place.Given as goal

abbrev pub ghosts-report_end : goal.ghosts-report_end
ghosts-report_end g a = names_of 1 a.blanks
