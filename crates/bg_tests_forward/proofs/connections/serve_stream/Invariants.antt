use Rattle.bg_ledger.specs.Picks.{names_of}
use Rattle.bg_tests_forward.proofs.connections.serve_stream.Given as goal

abbrev pub ghosts-serve_over : goal.ghosts-serve_over
ghosts-serve_over g a = names_of 1 a.blanks
