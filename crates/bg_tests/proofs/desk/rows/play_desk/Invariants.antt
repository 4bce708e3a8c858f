use Rattle.bg_ledger.specs.Picks.{names_of}
use Rattle.bg_tests.proofs.desk.rows.play_desk.Given as goal

abbrev pub ghosts-play_at_desk : goal.ghosts-play_at_desk
ghosts-play_at_desk g a = names_of 4 a.blanks
