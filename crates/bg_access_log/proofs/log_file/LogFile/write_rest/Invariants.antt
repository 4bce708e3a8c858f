use Rattle.std.proofs.Common.{◌≡◌}
use Rattle.bg_access_log.proofs.log_file.LogFile.write_rest.Given as goal

abbrev pub invariant-loop-pieces : goal.invariant-loop-pieces
invariant-loop-pieces l = l.self.rest ≡ l.fn.self.rest
