-- When revisions are scaled down, and which revisions are old.
use Rattle.std.proofs.Common.{◌≡◌, true, false, List, [], ◌∷◌, Some, None, codes, refl}
use Rattle.bg_history.specs.declared.entry.Entry.{Entry}
use Rattle.bg_history.specs.declared.entry.Entry.TheVariants.{Tick, Available, Verdict, Abort, Retry, Enter, Leave, Outcome}
use Rattle.bg_history.specs.declared.entry.Outcome.TheVariants.{Ready, Resumed, Switched, ScaledDown}
use Rattle.bg_history.specs.declared.entry.Analysis.TheVariants.{Pre, Post}
use Rattle.bg_history.specs.declared.entry.AnalysisResult.TheVariants.{Failed, Error}
use Rattle.bg_revisions.specs.declared.revision.Service.TheVariants as service
use Rattle.bg_strategy.specs.declared.strategy.Strategy.{Strategy}
use Rattle.bg_history.proofs.Examples.{plain, with_preview, with_pause, with_post, with_limit, without_abort_delay, opening, deploy_2, deploy_3, deploy_4, ready, resumed, switched, promoted, promoted_twice, aborted}
use Rattle.bg_history.specs.Marks.{Aborted, Cleared, kind_of}
use Rattle.bg_history.specs.Deadlines.{deadline, is_spare, rank, is_due, is_old, old_revisions}
use Rattle.bg_history.specs.Steps.{first_allowed, all_allowed}

-- two revisions left the active service: one left after revision 1
rank_of_the_first : rank with_limit 1 promoted_twice ≡ 1
rank_of_the_first = refl

-- none left after revision 2
rank_of_the_last : rank with_limit 2 promoted_twice ≡ 0
rank_of_the_last = refl

-- the stable revision doesn't count, even if it left the active service last
rank_beside_the_stable : rank with_limit 1
    (Outcome (Switched 3) ∷ Outcome (Resumed 3) ∷ Outcome (Ready 3) ∷ Available 3 2 ∷ deploy_3 ∷ promoted) ≡ 0
rank_beside_the_stable = refl

-- a revision that is scaled down doesn't count any more
rank_of_the_only : rank with_limit 1 (Outcome (ScaledDown 2) ∷ promoted_twice) ≡ 0
rank_of_the_only = refl

-- at most one old revision stays scaled, and there is a preview service
abbrev watched : Strategy
watched = record with_limit { preview_service = Some (codes "preview") }

-- revision 3 is superseded while a request of the preview service is open at it
abbrev in_use : List Entry
in_use = deploy_4 ∷ Enter 0 service.Preview 1 3 9202 ∷ Available 3 2 ∷ deploy_3 ∷ promoted

-- each of its entries is allowed
in_use_is_legal : all_allowed watched opening in_use ≡ true
in_use_is_legal = refl

-- revision 3 has a deadline at once
in_use-deadline : deadline watched 3 in_use ≡ Some 0
in_use-deadline = refl

-- revision 3 doesn't count among those that left the active service
in_use-rank : rank watched 1 in_use ≡ 0
in_use-rank = refl

-- so revision 1 isn't over the limit
in_use-due : is_due watched 1 in_use ≡ false
in_use-due = refl

-- no revision is scaled down while the request is open
in_use-first : first_allowed watched in_use ≡ None
in_use-first = refl

-- revision 3 is scaled down once the request has left
in_use-left : first_allowed watched (Leave 0 1 3 ∷ in_use) ≡ Some (ScaledDown 3)
in_use-left = refl

-- an aborted revision that didn't leave the active service doesn't count
rank_beside_an_abort : rank with_limit 1 (Abort ∷ deploy_3 ∷ promoted) ≡ 0
rank_beside_an_abort = refl

-- an aborted revision isn't due before its deadline, even if no old revision may stay scaled
aborted_is_not_due : is_due (record with_pause { revision_limit = Some 0 }) 2 (Tick 24 ∷ aborted) ≡ false
aborted_is_not_due = refl

-- an aborted revision is due at its deadline
aborted_is_due : is_due (record with_pause { revision_limit = Some 0 }) 2 (Tick 25 ∷ aborted) ≡ true
aborted_is_due = refl

-- an attempt is aborted as it begins, at moment 3: its revision has a deadline
deadline_of_an_abort_at_the_beginning : deadline plain 2 (Abort ∷ deploy_2 ∷ Tick 3 ∷ []) ≡ Some 23
deadline_of_an_abort_at_the_beginning = refl

-- an attempt is aborted in the analysis before the switch: its revision has a deadline
deadline_of_an_abort_in_the_analysis : deadline with_pause 2 (Abort ∷ Tick 4 ∷ ready) ≡ Some 24
deadline_of_an_abort_in_the_analysis = refl

-- the analysis before the switch fails: the revision has a deadline
deadline_of_a_failure_before_the_switch : deadline with_pause 2 (Verdict Pre Failed ∷ Tick 4 ∷ ready) ≡ Some 24
deadline_of_a_failure_before_the_switch = refl

-- the analysis before the switch ends with error: the revision has a deadline
deadline_of_an_error_before_the_switch : deadline with_pause 2 (Verdict Pre Error ∷ Tick 4 ∷ ready) ≡ Some 24
deadline_of_an_error_before_the_switch = refl

-- an attempt is aborted in the pause: its revision has a deadline
deadline_of_an_abort_in_the_pause : deadline with_pause 2 aborted ≡ Some 25
deadline_of_an_abort_in_the_pause = refl

-- an attempt is aborted while its revision grows to full size: the revision has a deadline
deadline_of_an_abort_at_the_sizing : deadline with_preview 2 (Abort ∷ Tick 6 ∷ resumed) ≡ Some 26
deadline_of_an_abort_at_the_sizing = refl

-- the deadline depends on the moment of the abort, and stays the same later
deadline_of_an_abort_later : deadline with_pause 2 (Tick 24 ∷ aborted) ≡ Some 25
deadline_of_an_abort_later = refl

-- at its deadline, the aborted revision is scaled down, and then it has no deadline
scaled_down_after_an_abort : first_allowed with_pause (Tick 25 ∷ aborted) ≡ Some (ScaledDown 2)
scaled_down_after_an_abort = refl

deadline_once_scaled_down_after_an_abort : deadline with_pause 2 (Outcome (ScaledDown 2) ∷ Tick 25 ∷ aborted) ≡ None
deadline_once_scaled_down_after_an_abort = refl

-- the revision isn't scaled down while a request is open at it
drains_after_an_abort : first_allowed with_post (Tick 20 ∷ Abort ∷ Enter 0 service.Active 1 2 9102 ∷ switched) ≡ None
drains_after_an_abort = refl

-- the active revision has no deadline
deadline_of_the_active : deadline plain 2 promoted ≡ None
deadline_of_the_active = refl

-- a revision that is scaled down has no deadline any more
deadline_when_scaled_down : deadline plain 1 (Outcome (ScaledDown 1) ∷ Tick 30 ∷ promoted) ≡ None
deadline_when_scaled_down = refl

-- a revision that is scaled down isn't spare
scaled_down_is_not_spare : is_spare plain 1 (Outcome (ScaledDown 1) ∷ Tick 30 ∷ promoted) ≡ false
scaled_down_is_not_spare = refl

-- during the analysis after the switch, the stable revision has a deadline
deadline_of_the_stable : deadline with_post 1 (Tick 30 ∷ switched) ≡ Some 30
deadline_of_the_stable = refl

-- the stable revision isn't due
stable_is_not_due : is_due with_post 1 (Tick 30 ∷ switched) ≡ false
stable_is_not_due = refl

-- revision 3 is deployed during that analysis: revision 2 is still active, and isn't superseded
deadline_of_the_deployed_over : deadline with_post 2 (deploy_3 ∷ switched) ≡ None
deadline_of_the_deployed_over = refl

-- an abort of revision 3 makes revision 2 leave the active service
deadline_after_the_abort_of_another : deadline with_post 2 (Abort ∷ deploy_3 ∷ switched) ≡ Some 30
deadline_after_the_abort_of_another = refl

-- the abort is a mark of revision 3, too
deadline_of_the_other_after_the_abort : deadline with_post 3 (Abort ∷ deploy_3 ∷ switched) ≡ Some 20
deadline_of_the_other_after_the_abort = refl

-- only revision 2 counts among those that left
rank_beside_both : rank with_post 2 (Abort ∷ deploy_3 ∷ switched) ≡ 0
rank_beside_both = refl

-- a revision that leaves the active service because its analysis failed stays for the delay of an aborted one
deadline_after_a_failure : deadline with_post 2 (Verdict Post Failed ∷ Tick 7 ∷ switched) ≡ Some 27
deadline_after_a_failure = refl

-- the same holds if its analysis ended with error
deadline_after_an_error : deadline with_post 2 (Verdict Post Error ∷ Tick 7 ∷ switched) ≡ Some 27
deadline_after_an_error = refl

-- the same holds if its attempt is aborted during the analysis
deadline_after_an_abort : deadline with_post 2 (Abort ∷ Tick 7 ∷ switched) ≡ Some 27
deadline_after_an_abort = refl

-- the stable revision is active again, and has no deadline
deadline_of_the_stable_after_an_abort : deadline with_post 1 (Abort ∷ Tick 7 ∷ switched) ≡ None
deadline_of_the_stable_after_an_abort = refl

-- without the delay, an aborted revision has no deadline, even if it just left the active service
deadline_without_the_delay : deadline without_abort_delay 2 (Abort ∷ Tick 7 ∷ switched) ≡ None
deadline_without_the_delay = refl

deadline_after_a_failure_without_the_delay : deadline without_abort_delay 2 (Verdict Post Failed ∷ Tick 7 ∷ switched) ≡ None
deadline_after_a_failure_without_the_delay = refl

-- an entry that changes nothing for a revision makes no mark of it
tick_is_no_mark : kind_of plain 1 (Tick 5) [] ≡ None
tick_is_no_mark = refl

-- an abort makes a mark of the newest revision
abort_marks : kind_of plain 2 Abort ready ≡ Some Aborted
abort_marks = refl

-- an abort makes no mark of another revision
abort_marks_the_newest : kind_of plain 1 Abort ready ≡ None
abort_marks_the_newest = refl

-- without the delay, an abort clears the deadline of the newest revision
abort_clears : kind_of without_abort_delay 2 Abort ready ≡ Some Cleared
abort_clears = refl

-- a retry clears the deadline of the newest revision
retry_clears : kind_of plain 2 Retry aborted ≡ Some Cleared
retry_clears = refl

deadline_of_a_retry : deadline with_pause 2 (Retry ∷ aborted) ≡ None
deadline_of_a_retry = refl

-- an aborted revision that is still scaled is superseded by the next deploy
deadline_of_an_aborted_one_superseded : deadline with_pause 2 (deploy_3 ∷ Tick 6 ∷ aborted) ≡ Some 6
deadline_of_an_aborted_one_superseded = refl

-- an aborted revision that was scaled down
abbrev unscaled : List Entry
unscaled = Outcome (ScaledDown 2) ∷ Tick 25 ∷ aborted

-- the next deploy makes no mark of a revision that is scaled down
unscaled_is_not_superseded : kind_of with_pause 2 deploy_3 unscaled ≡ None
unscaled_is_not_superseded = refl

-- the newest revision isn't old
newest_is_not_old : is_old with_pause unscaled 2 ≡ false
newest_is_not_old = refl

-- so no revision is old
unscaled-old : old_revisions with_pause unscaled ≡ []
unscaled-old = refl

-- the revision is old once another one is deployed
older_is_old : is_old with_pause (deploy_3 ∷ unscaled) 2 ≡ true
older_is_old = refl

-- a scaled revision isn't old
scaled_is_not_old : is_old with_pause (deploy_3 ∷ aborted) 2 ≡ false
scaled_is_not_old = refl

-- a selected revision isn't old
stable_is_not_old : is_old plain (Outcome (ScaledDown 2) ∷ deploy_3 ∷ promoted) 2 ≡ false
stable_is_not_old = refl
