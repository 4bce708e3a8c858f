-- Worked examples of histories, which fix the definitions. Read each from its last line up: the oldest entry is first.
use Rattle.std.proofs.Common.{◌≡◌, true, false, List, [], ◌∷◌, Some, None, refl}
use Rattle.bg_history.specs.declared.entry.Entry.{Entry}
use Rattle.bg_history.specs.declared.entry.Entry.TheVariants.{Tick, Available, Verdict, Enter, Leave, Outcome}
use Rattle.bg_history.specs.declared.entry.Outcome.TheVariants.{Ready, Resumed, Switched, Promoted, ScaledDown}
use Rattle.bg_history.specs.declared.entry.Analysis.TheVariants.{Post}
use Rattle.bg_history.specs.declared.entry.AnalysisResult.TheVariants.{Failed}
use Rattle.bg_revisions.specs.declared.revision.Service.TheVariants as service
use Rattle.bg_history.proofs.Examples.{plain, with_pause, with_post, with_limit, without_history, opening, deploy_1, deploy_2, ready, switched, promoted, paused, aborted, promoted_twice, superseded}
use Rattle.bg_history.specs.AttemptBounds.{newest_of, is_halted}
use Rattle.bg_history.specs.Selections.{active_of, preview_of}
use Rattle.bg_history.specs.Sizes.{existing, desired}
use Rattle.bg_history.specs.Phases.{is_steady, awaits_pre, is_paused}
use Rattle.bg_history.specs.Deadlines.{deadline, is_due}
use Rattle.bg_history.specs.Requests.{open_at, request_numbers, given}
use Rattle.bg_history.specs.Steps.{first_allowed, is_settled, all_allowed, all_given}

-- revision 2 is deployed, becomes available and is promoted, all at moment 0
promoted_is_legal : all_allowed plain opening promoted ≡ true
promoted_is_legal = refl

promoted_is_settled : is_settled plain promoted ≡ true
promoted_is_settled = refl

promoted_is_steady : is_steady promoted ≡ true
promoted_is_steady = refl

-- the old revision is scaled down after 30 seconds, and not after 29
promoted-deadline : deadline plain 1 promoted ≡ Some 30
promoted-deadline = refl

scaled_down_not_at_29 : first_allowed plain (Tick 29 ∷ promoted) ≡ None
scaled_down_not_at_29 = refl

scaled_down_at_30 : first_allowed plain (Tick 30 ∷ Tick 29 ∷ promoted) ≡ Some (ScaledDown 1)
scaled_down_at_30 = refl

-- no service switches without an attempt
lone_switch_is_illegal : all_allowed plain opening (Outcome (Switched 1) ∷ []) ≡ false
lone_switch_is_illegal = refl

-- the strategy has an analysis after the switch; during it, at moment 40, revision 1 is deployed again
abbrev reverted : List Entry
reverted =
    deploy_1
    ∷ Tick 40
    ∷ Outcome (Switched 2)
    ∷ Outcome (Resumed 2)
    ∷ Outcome (Ready 2)
    ∷ Available 2 2
    ∷ deploy_2
    ∷ Available 1 2
    ∷ []

reverted_is_legal : all_allowed with_post opening reverted ≡ true
reverted_is_legal = refl

-- the revert needs no attempt: the stable revision is active at once, and the new one left the service at 40
reverted_is_steady : is_steady reverted ≡ true
reverted_is_steady = refl

reverted-active : active_of reverted ≡ 1
reverted-active = refl

reverted-deadline : deadline with_post 2 reverted ≡ Some 70
reverted-deadline = refl

reverted-deadline_of_active : deadline with_post 1 reverted ≡ None
reverted-deadline_of_active = refl

reverted-at_70 : first_allowed with_post (Tick 70 ∷ reverted) ≡ Some (ScaledDown 2)
reverted-at_70 = refl

-- the newest template can't be deployed again
deployed_twice_is_illegal : all_allowed with_post opening (deploy_1 ∷ reverted) ≡ false
deployed_twice_is_illegal = refl

-- a request entered at revision 1 before revision 2 was promoted, and 30 seconds have passed
abbrev draining : List Entry
draining =
    Tick 30
    ∷ Outcome (Promoted 2)
    ∷ Outcome (Switched 2)
    ∷ Outcome (Resumed 2)
    ∷ Outcome (Ready 2)
    ∷ Available 2 2
    ∷ deploy_2
    ∷ Enter 0 service.Active 1 1 9002
    ∷ Available 1 2
    ∷ []

draining_is_legal : all_allowed plain opening draining ≡ true
draining_is_legal = refl

draining_is_due : is_due plain 1 draining ≡ true
draining_is_due = refl

draining-open : open_at 1 draining ≡ 1 ∷ []
draining-open = refl

-- revision 1 stays scaled while the request is open, and is scaled down once it has left
draining_is_settled : is_settled plain draining ≡ true
draining_is_settled = refl

drained : first_allowed plain (Leave 0 1 1 ∷ draining) ≡ Some (ScaledDown 1)
drained = refl

-- at most one old revision stays scaled: the one that left the service first is scaled down before its deadline
over_the_limit : first_allowed with_limit promoted_twice ≡ Some (ScaledDown 1)
over_the_limit = refl

within_the_limit : is_settled with_limit (Outcome (ScaledDown 1) ∷ promoted_twice) ≡ true
within_the_limit = refl

-- the strategy keeps no old revision: a superseded revision is scaled down and removed at once
superseded_is_legal : all_allowed without_history opening superseded ≡ true
superseded_is_legal = refl

superseded_is_settled : is_settled without_history superseded ≡ true
superseded_is_settled = refl

superseded-existing : existing superseded ≡ 1 ∷ 3 ∷ []
superseded-existing = refl

-- the strategy has an analysis before the switch, and a pause of 10 seconds after it
ready_awaits_pre : awaits_pre with_pause ready ≡ true
ready_awaits_pre = refl

paused_is_paused : is_paused with_pause paused ≡ true
paused_is_paused = refl

-- the seconds of the pause count from the verdict on
pause_not_over_at_14 : first_allowed with_pause (Tick 14 ∷ paused) ≡ None
pause_not_over_at_14 = refl

pause_over_at_15 : first_allowed with_pause (Tick 15 ∷ paused) ≡ Some (Resumed 2)
pause_over_at_15 = refl

-- an operator aborts in the pause: the stable revision is active and preview; the newest revision stays scaled
aborted_is_halted : is_halted aborted ≡ true
aborted_is_halted = refl

aborted-preview : preview_of aborted ≡ 1
aborted-preview = refl

aborted-newest : newest_of aborted ≡ 2
aborted-newest = refl

aborted-desired : desired with_pause 2 aborted ≡ 2
aborted-desired = refl

aborted-deadline : deadline with_pause 2 aborted ≡ Some 25
aborted-deadline = refl

-- the analysis after the switch fails: the stable revision is active; the other stays for the delay of an aborted one
abbrev failed : List Entry
failed = Verdict Post Failed ∷ switched

failed_is_legal : all_allowed with_post opening failed ≡ true
failed_is_legal = refl

failed-active : active_of failed ≡ 1
failed-active = refl

failed-deadline : deadline with_post 2 failed ≡ Some 20
failed-deadline = refl

-- request numbers are given in order from 1: a past whose only request has number 2 isn't legal
abbrev second_request : List Entry
second_request = Enter 0 service.Active 2 1 9001 ∷ Available 1 2 ∷ []

second_request_alone : all_given (given (0 ∷ []) second_request) (request_numbers second_request) ≡ false
second_request_alone = refl

second_request_after_a_closed_one : all_given (given (1 ∷ []) second_request) (request_numbers second_request) ≡ true
second_request_after_a_closed_one = refl
