-- When each outcome is allowed, and when it isn't.
use Rattle.std.proofs.Common.{◌≡◌, true, false, List, [], ◌∷◌, refl}
use Rattle.bg_history.specs.declared.entry.Entry.{Entry}
use Rattle.bg_history.specs.declared.entry.Entry.TheVariants.{Tick, Available, Verdict, Promote, PromoteFull, Enter, Outcome}
use Rattle.bg_history.specs.declared.entry.Outcome.TheVariants.{Ready, Resumed, Switched, Promoted, ScaledDown, Removed}
use Rattle.bg_history.specs.declared.entry.Analysis.TheVariants.{Post}
use Rattle.bg_history.specs.declared.entry.AnalysisResult.TheVariants.{Successful}
use Rattle.bg_revisions.specs.declared.revision.Service.TheVariants as service
use Rattle.bg_strategy.specs.declared.strategy.Strategy.{Strategy}
use Rattle.bg_history.proofs.Examples.{plain, with_preview, with_pause, with_post, without_history, opening, deploy_2, deploy_3, deploy_4, grown, ready, resumed, switched, promoted, paused}
use Rattle.bg_history.specs.Allowed.{is_allowed}

-- a new revision becomes ready once it has its two endpoints
ready_when_grown : is_allowed plain opening (Outcome (Ready 2)) grown ≡ true
ready_when_grown = refl

-- it doesn't become ready with one of two endpoints
ready_with_one_endpoint : is_allowed plain opening (Outcome (Ready 2)) (Available 2 1 ∷ deploy_2 ∷ []) ≡ false
ready_with_one_endpoint = refl

-- with one endpoint it becomes ready if its preview needs only one
ready_for_the_preview : is_allowed with_preview opening (Outcome (Ready 2)) (Available 2 1 ∷ deploy_2 ∷ []) ≡ true
ready_for_the_preview = refl

-- no other revision becomes ready
ready_of_the_stable : is_allowed plain opening (Outcome (Ready 1)) (Available 1 2 ∷ grown) ≡ false
ready_of_the_stable = refl

-- a revision doesn't become ready twice
ready_again : is_allowed plain opening (Outcome (Ready 2)) ready ≡ false
ready_again = refl

-- without an analysis and a pause, a revision is resumed once it is ready
resumed_when_ready : is_allowed plain opening (Outcome (Resumed 2)) ready ≡ true
resumed_when_ready = refl

-- it isn't resumed before it is ready
resumed_too_early : is_allowed plain opening (Outcome (Resumed 2)) grown ≡ false
resumed_too_early = refl

-- it isn't resumed twice
resumed_again : is_allowed plain opening (Outcome (Resumed 2)) resumed ≡ false
resumed_again = refl

-- a pause of 10 seconds that began at 5 is over at 15
resumed_after_the_pause : is_allowed with_pause opening (Outcome (Resumed 2)) (Tick 15 ∷ paused) ≡ true
resumed_after_the_pause = refl

-- the pause isn't over at 14
resumed_in_the_pause : is_allowed with_pause opening (Outcome (Resumed 2)) (Tick 14 ∷ paused) ≡ false
resumed_in_the_pause = refl

-- an operator may end the pause earlier
resumed_by_promote : is_allowed with_pause opening (Outcome (Resumed 2)) (Promote ∷ paused) ≡ true
resumed_by_promote = refl

-- the active service switches once the new revision is resumed
switched_when_resumed : is_allowed plain opening (Outcome (Switched 2)) resumed ≡ true
switched_when_resumed = refl

-- the active service doesn't switch before the new revision is resumed
switched_too_early : is_allowed plain opening (Outcome (Switched 2)) ready ≡ false
switched_too_early = refl

-- the active service doesn't switch twice
switched_again : is_allowed plain opening (Outcome (Switched 2)) switched ≡ false
switched_again = refl

-- the revision is resumed with the preview's endpoints alone; the active service doesn't switch
abbrev resumed_small : List Entry
resumed_small = Outcome (Resumed 2) ∷ Outcome (Ready 2) ∷ Available 2 1 ∷ deploy_2 ∷ []

switched_when_small : is_allowed with_preview opening (Outcome (Switched 2)) resumed_small ≡ false
switched_when_small = refl

-- the active service switches once the new revision has grown to full size
switched_when_full : is_allowed with_preview opening (Outcome (Switched 2)) (Available 2 2 ∷ resumed_small) ≡ true
switched_when_full = refl

-- without an analysis, the new revision is promoted after the switch
promoted_when_switched : is_allowed plain opening (Outcome (Promoted 2)) switched ≡ true
promoted_when_switched = refl

-- it isn't promoted before the switch
promoted_too_early : is_allowed plain opening (Outcome (Promoted 2)) resumed ≡ false
promoted_too_early = refl

-- it isn't promoted while an analysis is awaited
promoted_in_the_analysis : is_allowed with_post opening (Outcome (Promoted 2)) switched ≡ false
promoted_in_the_analysis = refl

-- it is promoted once the analysis has succeeded
promoted_after_success : is_allowed with_post opening (Outcome (Promoted 2)) (Verdict Post Successful ∷ switched) ≡ true
promoted_after_success = refl

-- it is promoted if an operator promotes it in full
promoted_in_full : is_allowed with_post opening (Outcome (Promoted 2)) (PromoteFull ∷ switched) ≡ true
promoted_in_full = refl

-- an old revision is scaled down after 30 seconds
scaled_down_when_due : is_allowed plain opening (Outcome (ScaledDown 1)) (Tick 30 ∷ promoted) ≡ true
scaled_down_when_due = refl

-- an old revision isn't scaled down after 29 seconds
scaled_down_too_early : is_allowed plain opening (Outcome (ScaledDown 1)) (Tick 29 ∷ promoted) ≡ false
scaled_down_too_early = refl

-- a revision isn't scaled down twice
scaled_down_again : is_allowed plain opening (Outcome (ScaledDown 1)) (Outcome (ScaledDown 1) ∷ Tick 30 ∷ promoted) ≡ false
scaled_down_again = refl

-- the active revision isn't scaled down
scaled_down_while_active : is_allowed plain opening (Outcome (ScaledDown 2)) (Tick 30 ∷ promoted) ≡ false
scaled_down_while_active = refl

-- a revision with an open request isn't scaled down
scaled_down_in_use : is_allowed plain opening (Outcome (ScaledDown 1))
    (Tick 30 ∷ Outcome (Promoted 2) ∷ Enter 0 service.Active 1 1 9002 ∷ switched) ≡ false
scaled_down_in_use = refl

-- revision 2 was superseded and scaled down
abbrev unscaled : List Entry
unscaled = Outcome (ScaledDown 2) ∷ deploy_3 ∷ deploy_2 ∷ []

-- if the strategy keeps no old revision, an old revision is removed
removed_when_unscaled : is_allowed without_history opening (Outcome (Removed 2)) unscaled ≡ true
removed_when_unscaled = refl

-- a revision isn't removed while it is scaled
removed_too_early : is_allowed without_history opening (Outcome (Removed 2)) (deploy_3 ∷ deploy_2 ∷ []) ≡ false
removed_too_early = refl

-- a revision isn't removed twice
removed_again : is_allowed without_history opening (Outcome (Removed 2)) (Outcome (Removed 2) ∷ unscaled) ≡ false
removed_again = refl

-- if the strategy keeps ten old revisions, the old revision isn't removed
removed_within_the_history : is_allowed plain opening (Outcome (Removed 2)) unscaled ≡ false
removed_within_the_history = refl

-- a strategy that keeps one old revision
abbrev with_one_kept : Strategy
with_one_kept = record plain { history_limit = 1 }

-- if the strategy keeps one old revision, the only old revision isn't removed
removed_at_the_limit : is_allowed with_one_kept opening (Outcome (Removed 2)) unscaled ≡ false
removed_at_the_limit = refl

-- of two old revisions, the least is removed
removed_the_least : is_allowed with_one_kept opening (Outcome (Removed 2)) (Outcome (ScaledDown 3) ∷ deploy_4 ∷ unscaled) ≡ true
removed_the_least = refl

-- of two old revisions, the greater isn't removed
removed_the_greater : is_allowed with_one_kept opening (Outcome (Removed 3)) (Outcome (ScaledDown 3) ∷ deploy_4 ∷ unscaled) ≡ false
removed_the_greater = refl
