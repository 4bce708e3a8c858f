-- The phase of a past.
use Rattle.std.specs.Prelude.{if◌then◌else◌, List, Option, Some, None}
use Rattle.bg_history.specs.declared.entry.Entry.{Entry}
use Rattle.bg_strategy.specs.declared.strategy.Strategy.{Strategy}
use Rattle.bg_history.specs.AttemptBounds.{is_halted}
use Rattle.bg_history.specs.Phases.{is_steady, is_scaling, awaits_pre, is_paused, is_sizing, awaits_post}
use Rattle.bg_promotion.specs.declared.phase.Phase.{Phase}
use Rattle.bg_promotion.specs.declared.phase.Phase.TheVariants.{Steady, Scaling, PreAnalysis, Paused, Sizing, PostAnalysis, Aborted}

-- the first phase whose test the past passes, if there is one (Argo Rollouts, "BlueGreen Deployment
-- Strategy", sequence of events)
abbrev pub phase_of : Strategy → List Entry → Option Phase
phase_of s past =
    if is_halted past then Some Aborted
    else if is_steady past then Some Steady
    else if is_scaling past then Some Scaling
    else if awaits_pre s past then Some PreAnalysis
    else if is_paused s past then Some Paused
    else if is_sizing past then Some Sizing
    else if awaits_post s past then Some PostAnalysis
    else None
