-- What ends the waits of an attempt.
use Rattle.std.proofs.Common.{◌≡◌, true, false, [], ◌∷◌, Some, None, refl}
use Rattle.bg_history.specs.declared.entry.Entry.TheVariants.{Tick, Available, Verdict, Promote, PromoteFull, Retry, Outcome}
use Rattle.bg_history.specs.declared.entry.Outcome.TheVariants.{Ready, Resumed, Switched, Promoted, ScaledDown}
use Rattle.bg_history.specs.declared.entry.Analysis.TheVariants.{Pre, Post}
use Rattle.bg_history.specs.declared.entry.AnalysisResult.TheVariants.{Successful}
use Rattle.bg_strategy.specs.declared.strategy.Strategy.{Strategy}
use Rattle.bg_history.proofs.Examples.{plain, with_pause, with_post, deploy_2, deploy_3, ready, switched, paused, aborted}
use Rattle.bg_history.specs.Steps.{first_allowed}

-- while the analysis before the switch is awaited, nothing is allowed
pre_is_awaited : first_allowed with_pause ready ≡ None
pre_is_awaited = refl

-- an analysis before the switch, and no pause after it
abbrev with_pre : Strategy
with_pre = record plain { pre = true }

-- the same holds without a pause in the strategy
with_pre-wait : first_allowed with_pre ready ≡ None
with_pre-wait = refl

-- the success of the analysis ends this wait
with_pre-success : first_allowed with_pre (Verdict Pre Successful ∷ ready) ≡ Some (Resumed 2)
with_pre-success = refl

-- a full promotion ends the wait for the analysis and for the pause
pre_by_promote_full : first_allowed with_pause (PromoteFull ∷ ready) ≡ Some (Resumed 2)
pre_by_promote_full = refl

-- a full promotion doesn't replace the endpoints
ready_by_promote_full : first_allowed with_pause (PromoteFull ∷ deploy_2 ∷ []) ≡ None
ready_by_promote_full = refl

-- an earlier full promotion counts once the endpoints are available
pre_by_an_early_promote_full : first_allowed with_pause (Outcome (Ready 2) ∷ Available 2 2 ∷ PromoteFull ∷ deploy_2 ∷ []) ≡ Some (Resumed 2)
pre_by_an_early_promote_full = refl

-- a full promotion of the attempt before doesn't count
pre_by_an_old_promote_full : first_allowed with_pause
    (Outcome (Ready 3) ∷ Available 3 2 ∷ Outcome (ScaledDown 2) ∷ deploy_3 ∷ PromoteFull ∷ deploy_2 ∷ []) ≡ None
pre_by_an_old_promote_full = refl

-- a promotion in the pause ends the pause
pause_by_promote : first_allowed with_pause (Promote ∷ paused) ≡ Some (Resumed 2)
pause_by_promote = refl

-- a promotion before the analysis has succeeded wouldn't end the wait
pause_by_an_early_promote : first_allowed with_pause (Promote ∷ ready) ≡ None
pause_by_an_early_promote = refl

-- only an operator ends the pause, regardless of the seconds
abbrev by_hand : Strategy
by_hand = record plain { auto_promotion = false; auto_seconds = 10 }

-- time doesn't end this pause
by_hand-tick : first_allowed by_hand (Tick 1000 ∷ ready) ≡ None
by_hand-tick = refl

-- the pause doesn't end at once if there are no seconds
by_hand-no_seconds : first_allowed (record by_hand { auto_seconds = 0 }) ready ≡ None
by_hand-no_seconds = refl

-- a promotion ends this pause
by_hand-promote : first_allowed by_hand (Promote ∷ ready) ≡ Some (Resumed 2)
by_hand-promote = refl

-- while the analysis after the switch is awaited, nothing is allowed
post_is_awaited : first_allowed with_post switched ≡ None
post_is_awaited = refl

-- the success of the analysis after the switch ends this wait
post_by_success : first_allowed with_post (Verdict Post Successful ∷ switched) ≡ Some (Promoted 2)
post_by_success = refl

-- a full promotion ends this wait, too
post_by_promote_full : first_allowed with_post (PromoteFull ∷ switched) ≡ Some (Promoted 2)
post_by_promote_full = refl

-- a strategy with an analysis before the switch and one after it
abbrev with_both : Strategy
with_both = record with_pause { post = true }

-- the success of the first analysis doesn't end the wait for the second
post_by_success_of_pre : first_allowed with_both (Outcome (Switched 2) ∷ Outcome (Resumed 2) ∷ Promote ∷ paused) ≡ None
post_by_success_of_pre = refl

-- an aborted attempt doesn't continue
aborted_stays : first_allowed with_pause aborted ≡ None
aborted_stays = refl

-- a retry begins a new attempt with the first step
retried_from_the_first : first_allowed with_pause (Retry ∷ aborted) ≡ Some (Ready 2)
retried_from_the_first = refl
