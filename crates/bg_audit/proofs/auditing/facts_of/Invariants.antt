use Rattle.bg_audit.specs.Openings.{opening_of, oldest}
use Rattle.bg_audit.specs.Known.{FactsRepresent}
use Rattle.bg_audit.proofs.auditing.facts_of.Given as goal

abbrev pub invariant-loop-place : goal.invariant-loop-place
invariant-loop-place l = FactsRepresent l.strategy (opening_of l.opening.seats l.opening.name.now l.opening.ports.now) (oldest l.place l.history.past) l.facts
