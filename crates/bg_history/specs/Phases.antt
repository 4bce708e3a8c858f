-- The phases of a rollout: one test for each (Argo Rollouts, "BlueGreen Deployment Strategy",
-- sequence of events).
use Rattle.std.specs.Prelude.{Bool, not, ◌&&◌, ◌||◌, nat_lt, List}
use Rattle.bg_history.specs.declared.entry.Entry.{Entry}
use Rattle.bg_strategy.specs.declared.strategy.Strategy.{Strategy}
use Rattle.bg_history.specs.AttemptBounds.{is_running, is_halted}
use Rattle.bg_history.specs.Attempts.{has_ready, has_resumed, has_switched, is_passed}

-- the strategy has a pause: a promotion needs an operator, or it comes only after some seconds
abbrev pub needs_pause : Strategy → Bool
needs_pause s = not s.auto_promotion || nat_lt 0 s.auto_seconds

-- steady: no attempt runs, and the newest bound of an attempt is no halt
abbrev pub is_steady : List Entry → Bool
is_steady past = not (is_halted past) && not (is_running past)

-- scaling: the new revision isn't ready yet
abbrev pub is_scaling : List Entry → Bool
is_scaling past = is_running past && not (has_ready past)

-- pre-promotion analysis: the new revision is ready, and the analysis before the switch has no verdict yet
abbrev pub awaits_pre : Strategy → List Entry → Bool
awaits_pre s past = has_ready past && not (has_resumed past) && s.pre && not (is_passed s past)

-- paused: the analysis before the switch succeeded or none is set, and the pause isn't over
abbrev pub is_paused : Strategy → List Entry → Bool
is_paused s past = is_passed s past && not (has_resumed past) && needs_pause s

-- sizing: the pause is over, and the new revision grows to full size
abbrev pub is_sizing : List Entry → Bool
is_sizing past = has_resumed past && not (has_switched past)

-- post-promotion analysis: the active service has switched, and the rollout waits for the analysis after the switch
abbrev pub awaits_post : Strategy → List Entry → Bool
awaits_post s past = has_switched past && s.post
