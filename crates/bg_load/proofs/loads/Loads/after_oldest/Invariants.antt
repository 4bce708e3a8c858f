use Rattle.std.proofs.Common.{◌≡◌}
use Rattle.bg_load.specs.Pauses.{older}
use Rattle.bg_load.proofs.loads.Loads.after_oldest.Given as goal

-- so many large requests are older
abbrev pub invariant-loop : goal.invariant-loop
invariant-loop l = older l.least l.self.places ≡ l.counter
