-- What counts in an attempt, its phases, and what a halt leaves of it.
use Rattle.std.proofs.Common.{◌≡◌, true, false, [], ◌∷◌, Some, None, refl}
use Rattle.bg_history.specs.declared.entry.Entry.TheVariants.{Tick, Verdict, Promote, PromoteFull, Abort, Retry, Outcome}
use Rattle.bg_history.specs.declared.entry.Outcome.TheVariants.{Ready, Resumed, Promoted}
use Rattle.bg_history.specs.declared.entry.Analysis.TheVariants.{Pre, Post}
use Rattle.bg_history.specs.declared.entry.AnalysisResult.TheVariants.{Successful, Failed, Error}
use Rattle.bg_history.proofs.Examples.{plain, with_pause, with_post, opening, deploy_1, grown, ready, resumed, switched, promoted, paused, aborted}
use Rattle.bg_history.specs.AttemptBounds.{is_attempt_bound, is_halted}
use Rattle.bg_history.specs.Attempts.{has_ready, has_promote_full, passes, pass_moment}
use Rattle.bg_history.specs.Phases.{is_steady, is_scaling, awaits_pre, is_paused, is_sizing, awaits_post}
use Rattle.bg_history.specs.Allowed.{is_allowed}

-- the attempt passes at the moment at which the analysis succeeded
paused-pass_moment : pass_moment with_pause paused ≡ Some 5
paused-pass_moment = refl

-- a later success doesn't change that moment
pass_moment_of_the_first : pass_moment with_pause (Verdict Pre Successful ∷ Tick 9 ∷ paused) ≡ Some 5
pass_moment_of_the_first = refl

-- a success before the revision is ready doesn't count
pass_moment_before_ready : pass_moment with_pause (Verdict Pre Successful ∷ grown) ≡ None
pass_moment_before_ready = refl

-- without an analysis, the attempt passes when the revision is ready
pass_moment_of_ready : pass_moment plain (Tick 5 ∷ ready) ≡ Some 0
pass_moment_of_ready = refl

-- the success of an analysis that isn't set doesn't count
passes_unset : passes plain (Verdict Pre Successful) ready ≡ false
passes_unset = refl

-- without a running attempt, nothing passes
pass_moment_of_no_attempt : pass_moment plain (Outcome (Ready 1) ∷ []) ≡ None
pass_moment_of_no_attempt = refl

-- without a running attempt, a full promotion doesn't count
promote_full_of_no_attempt : has_promote_full (PromoteFull ∷ []) ≡ false
promote_full_of_no_attempt = refl

-- the Ready of one attempt doesn't count in the next one
ready_of_the_one_before : has_ready (Retry ∷ Abort ∷ ready) ≡ false
ready_of_the_one_before = refl

-- a retry bounds an attempt, like a deploy
retry_bounds_an_attempt : is_attempt_bound Retry ≡ true
retry_bounds_an_attempt = refl

-- after an abort, the analysis can't get a verdict
verdict_after_an_abort : is_allowed with_pause opening (Verdict Pre Successful) (Abort ∷ ready) ≡ false
verdict_after_an_abort = refl

-- after it failed, the analysis can't get another verdict
verdict_after_a_failure : is_allowed with_pause opening (Verdict Pre Successful) (Verdict Pre Failed ∷ ready) ≡ false
verdict_after_a_failure = refl

-- after it ended with error, the analysis can't get another verdict
verdict_after_an_error : is_allowed with_pause opening (Verdict Pre Successful) (Verdict Pre Error ∷ ready) ≡ false
verdict_after_an_error = refl

-- after the promotion, the analysis can't get another verdict
verdict_after_the_promotion : is_allowed with_post opening (Verdict Post Failed)
    (Outcome (Promoted 2) ∷ Verdict Post Successful ∷ switched) ≡ false
verdict_after_the_promotion = refl

-- the pause of an aborted attempt can't be ended
promote_after_an_abort : is_allowed with_pause opening Promote aborted ≡ false
promote_after_an_abort = refl

-- an attempt whose analysis failed can't be aborted
abort_after_a_failure : is_allowed with_pause opening Abort (Verdict Pre Failed ∷ ready) ≡ false
abort_after_a_failure = refl

-- an attempt whose analysis ended with error can't be aborted
abort_after_an_error : is_allowed with_pause opening Abort (Verdict Pre Error ∷ ready) ≡ false
abort_after_an_error = refl

-- an attempt whose analysis ended with error can be retried
retry_after_an_error : is_allowed with_pause opening Retry (Verdict Pre Error ∷ ready) ≡ true
retry_after_an_error = refl

-- after a promotion, no attempt is halted
promoted_is_not_halted : is_halted (Outcome (Promoted 2) ∷ aborted) ≡ false
promoted_is_not_halted = refl

-- a rollout isn't steady while an attempt runs
grown_is_not_steady : is_steady grown ≡ false
grown_is_not_steady = refl

-- a rollout isn't steady after an abort
aborted_is_not_steady : is_steady aborted ≡ false
aborted_is_not_steady = refl

-- a rollout is steady after the stable revision was deployed again
deployed_back_is_steady : is_steady (deploy_1 ∷ aborted) ≡ true
deployed_back_is_steady = refl

-- a new revision is scaling until it is ready
grown_is_scaling : is_scaling grown ≡ true
grown_is_scaling = refl

-- a ready revision isn't scaling
ready_is_not_scaling : is_scaling ready ≡ false
ready_is_not_scaling = refl

-- without a running attempt, no revision is scaling
promoted_is_not_scaling : is_scaling promoted ≡ false
promoted_is_not_scaling = refl

-- a full promotion ends the wait for the analysis
promoted_in_full_awaits_none : awaits_pre with_pause (Outcome (Resumed 2) ∷ PromoteFull ∷ ready) ≡ false
promoted_in_full_awaits_none = refl

-- without a pause in the strategy, a ready revision isn't paused
ready_is_not_paused : is_paused plain ready ≡ false
ready_is_not_paused = refl

-- a resumed revision is sizing: it grows to full size
resumed_is_sizing : is_sizing resumed ≡ true
resumed_is_sizing = refl

-- a revision isn't sizing before it is resumed
ready_is_not_sizing : is_sizing ready ≡ false
ready_is_not_sizing = refl

-- a revision isn't sizing after the switch
switched_is_not_sizing : is_sizing switched ≡ false
switched_is_not_sizing = refl

-- after the switch, the analysis after the switch is awaited
switched_awaits_post : awaits_post with_post switched ≡ true
switched_awaits_post = refl
