-- When each event other than a deploy or a request is allowed, and when it isn't.
use Rattle.std.proofs.Common.{◌≡◌, true, false, [], ◌∷◌, refl}
use Rattle.bg_history.specs.declared.entry.Entry.TheVariants.{Tick, Available, Verdict, Promote, PromoteFull, Abort, Retry, Outcome}
use Rattle.bg_history.specs.declared.entry.Outcome.TheVariants.{Resumed}
use Rattle.bg_history.specs.declared.entry.Analysis.TheVariants.{Pre, Post}
use Rattle.bg_history.specs.declared.entry.AnalysisResult.TheVariants.{Successful, Failed, Error}
use Rattle.bg_history.proofs.Examples.{plain, with_preview, with_pause, with_post, opening, deploy_1, deploy_2, deploy_3, grown, ready, resumed, switched, promoted, paused, aborted}
use Rattle.bg_history.specs.Allowed.{is_allowed}

-- a tick may repeat the moment
tick_of_now : is_allowed plain opening (Tick 5) (Tick 5 ∷ []) ≡ true
tick_of_now = refl

-- a tick can't go back to an earlier moment
tick_back : is_allowed plain opening (Tick 4) (Tick 5 ∷ []) ≡ false
tick_back = refl

-- the last moment is 2^53
tick_of_the_last : is_allowed plain opening (Tick 9007199254740992) [] ≡ true
tick_of_the_last = refl

-- no moment comes after the last one
tick_past_the_last : is_allowed plain opening (Tick 9007199254740993) [] ≡ false
tick_past_the_last = refl

-- a report may have as many endpoints as the revision wants
available_in_full : is_allowed plain opening (Available 1 2) [] ≡ true
available_in_full = refl

-- a report can't have more
available_in_excess : is_allowed plain opening (Available 1 3) [] ≡ false
available_in_excess = refl

-- before the switch, a report can't have more than the preview needs
available_beyond_the_preview : is_allowed with_preview opening (Available 2 2) (deploy_2 ∷ []) ≡ false
available_beyond_the_preview = refl

-- a revision that isn't deployed can't be reported
available_of_none : is_allowed plain opening (Available 2 0) [] ≡ false
available_of_none = refl

-- once the new revision is ready, the analysis before the switch may end with any result
verdict_pre : is_allowed with_pause opening (Verdict Pre Error) ready ≡ true
verdict_pre = refl

-- the analysis can't end before the new revision is ready
verdict_pre_too_early : is_allowed with_pause opening (Verdict Pre Error) grown ≡ false
verdict_pre_too_early = refl

-- the analysis can't end twice
verdict_pre_again : is_allowed with_pause opening (Verdict Pre Failed) paused ≡ false
verdict_pre_again = refl

-- an analysis before the switch that isn't set can't end
verdict_pre_unset : is_allowed with_post opening (Verdict Pre Successful) ready ≡ false
verdict_pre_unset = refl

-- once the active service has switched, the analysis after the switch may end
verdict_post : is_allowed with_post opening (Verdict Post Successful) switched ≡ true
verdict_post = refl

-- the analysis can't end before the switch
verdict_post_too_early : is_allowed with_post opening (Verdict Post Successful) resumed ≡ false
verdict_post_too_early = refl

-- an analysis after the switch that isn't set can't end
verdict_post_unset : is_allowed with_pause opening (Verdict Post Successful) switched ≡ false
verdict_post_unset = refl

-- an operator may end a pause
promote_in_the_pause : is_allowed with_pause opening Promote paused ≡ true
promote_in_the_pause = refl

-- an operator can't end the pause while the analysis is awaited
promote_too_early : is_allowed with_pause opening Promote ready ≡ false
promote_too_early = refl

-- an operator can't end the pause after it has ended
promote_again : is_allowed with_pause opening Promote (Outcome (Resumed 2) ∷ Promote ∷ paused) ≡ false
promote_again = refl

-- an attempt may be promoted in full from its begin on
promote_full : is_allowed plain opening PromoteFull (deploy_2 ∷ []) ≡ true
promote_full = refl

-- an attempt can be promoted in full only once
promote_full_again : is_allowed plain opening PromoteFull (PromoteFull ∷ deploy_2 ∷ []) ≡ false
promote_full_again = refl

-- the next attempt may be promoted in full, too
promote_full_of_the_next : is_allowed plain opening PromoteFull (deploy_3 ∷ PromoteFull ∷ deploy_2 ∷ []) ≡ true
promote_full_of_the_next = refl

-- without a running attempt, nothing can be promoted in full
promote_full_of_none : is_allowed plain opening PromoteFull promoted ≡ false
promote_full_of_none = refl

-- an attempt may be aborted up to its last step
abort_after_the_switch : is_allowed with_post opening Abort switched ≡ true
abort_after_the_switch = refl

-- a promoted attempt can't be aborted
abort_too_late : is_allowed with_post opening Abort promoted ≡ false
abort_too_late = refl

-- an aborted attempt can't be aborted again
abort_again : is_allowed with_pause opening Abort aborted ≡ false
abort_again = refl

-- a retry is allowed after an abort
retry_of_the_aborted : is_allowed with_pause opening Retry aborted ≡ true
retry_of_the_aborted = refl

-- a retry is allowed after a failed analysis
retry_of_the_failed : is_allowed with_post opening Retry (Verdict Post Failed ∷ switched) ≡ true
retry_of_the_failed = refl

-- a running attempt can't be retried
retry_of_the_running : is_allowed with_pause opening Retry paused ≡ false
retry_of_the_running = refl

-- a retry can't follow a retry
retry_again : is_allowed with_pause opening Retry (Retry ∷ aborted) ≡ false
retry_again = refl

-- a retry isn't allowed after the stable revision was deployed again
retry_after_a_deploy_back : is_allowed with_pause opening Retry (deploy_1 ∷ aborted) ≡ false
retry_after_a_deploy_back = refl
