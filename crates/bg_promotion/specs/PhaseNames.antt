-- The names of the phases.
use Rattle.std.specs.Prelude.{ℕ, List, codes}
use Rattle.bg_promotion.specs.declared.phase.Phase.{Phase}
use Rattle.bg_promotion.specs.declared.phase.Phase.TheVariants.{Steady, Scaling, PreAnalysis, Paused, Sizing, PostAnalysis, Aborted}

-- the name of a phase
abbrev pub phase_name : Phase → List ℕ
phase_name Steady = codes "steady"
phase_name Scaling = codes "scaling"
phase_name PreAnalysis = codes "preAnalysis"
phase_name Paused = codes "paused"
phase_name Sizing = codes "sizing"
phase_name PostAnalysis = codes "postAnalysis"
phase_name Aborted = codes "aborted"
