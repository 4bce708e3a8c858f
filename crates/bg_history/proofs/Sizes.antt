-- The existing revisions, and their desired and reported sizes.
use Rattle.std.proofs.Common.{◌≡◌, true, false, List, [], ◌∷◌, refl}
use Rattle.bg_history.specs.declared.entry.Entry.{Entry}
use Rattle.bg_history.specs.declared.entry.Entry.TheVariants.{Tick, Available, Retry, Outcome}
use Rattle.bg_history.specs.declared.entry.Outcome.TheVariants.{Ready, Resumed, Switched, Promoted, ScaledDown}
use Rattle.bg_history.proofs.Examples.{plain, with_preview, opening, deploy_1, deploy_2, deploy_3, aborted, superseded}
use Rattle.bg_history.specs.Sizes.{existing, last_number, begins, desired, available}
use Rattle.bg_history.specs.Steps.{all_allowed}

-- at the opening, only revision 1 exists
existing_at_the_opening : existing [] ≡ 1 ∷ []
existing_at_the_opening = refl

-- the revisions are in ascending order, regardless of the order of deploys, and each occurs once
existing_ascending : existing (deploy_2 ∷ deploy_3 ∷ deploy_2 ∷ []) ≡ 1 ∷ 2 ∷ 3 ∷ []
existing_ascending = refl

-- the last number is the greatest one, not the newest one
last_number_after_a_deploy_back : last_number (deploy_2 ∷ deploy_3 ∷ deploy_2 ∷ []) ≡ 3
last_number_after_a_deploy_back = refl

-- a removed revision's number stays given
last_number_after_a_removal : last_number superseded ≡ 3
last_number_after_a_removal = refl

-- a deploy begins an attempt of its revision
deploy_begins : begins 2 deploy_2 [] ≡ true
deploy_begins = refl

-- a deploy begins no attempt of another revision
deploy_begins_no_other : begins 1 deploy_2 [] ≡ false
deploy_begins_no_other = refl

-- a deploy of the stable revision begins no attempt
deploy_of_the_stable_begins_none : begins 1 deploy_1 (deploy_2 ∷ []) ≡ false
deploy_of_the_stable_begins_none = refl

-- a retry begins an attempt of the newest revision
retry_begins : begins 2 Retry aborted ≡ true
retry_begins = refl

-- a retry begins no attempt of another revision
retry_begins_no_other : begins 1 Retry aborted ≡ false
retry_begins_no_other = refl

-- revision 1 wants full size from the opening on
desired_at_the_opening : desired with_preview 1 [] ≡ 2
desired_at_the_opening = refl

-- a revision wants nothing before it is deployed
desired_before_the_deploy : desired with_preview 2 [] ≡ 0
desired_before_the_deploy = refl

-- at the begin of its attempt, a revision wants the preview's size
desired_at_the_begin : desired with_preview 2 (deploy_2 ∷ []) ≡ 1
desired_at_the_begin = refl

-- once it is resumed, a revision wants full size
desired_when_resumed : desired with_preview 2 (Outcome (Resumed 2) ∷ Outcome (Ready 2) ∷ Available 2 1 ∷ deploy_2 ∷ []) ≡ 2
desired_when_resumed = refl

-- revision 2 is promoted through the preview's size
abbrev promoted_by_preview : List Entry
promoted_by_preview =
    Outcome (Promoted 2)
    ∷ Outcome (Switched 2)
    ∷ Available 2 2
    ∷ Outcome (Resumed 2)
    ∷ Outcome (Ready 2)
    ∷ Available 2 1
    ∷ deploy_2
    ∷ []

-- each of its entries is allowed
deployed_back_is_legal : all_allowed with_preview opening (deploy_1 ∷ promoted_by_preview) ≡ true
deployed_back_is_legal = refl

-- an attempt of a revision that still wants full size doesn't change its size
desired_at_a_deploy_back : desired with_preview 1 (deploy_1 ∷ promoted_by_preview) ≡ 2
desired_at_a_deploy_back = refl

-- a revision that was scaled down before wants the preview's size
desired_after_a_scale_down : desired with_preview 1 (deploy_1 ∷ Outcome (ScaledDown 1) ∷ Tick 30 ∷ promoted_by_preview) ≡ 1
desired_after_a_scale_down = refl

-- revision 1 has its endpoints, and then it is scaled down
abbrev scaled_down : List Entry
scaled_down =
    Outcome (ScaledDown 1)
    ∷ Tick 30
    ∷ Outcome (Promoted 2)
    ∷ Outcome (Switched 2)
    ∷ Outcome (Resumed 2)
    ∷ Outcome (Ready 2)
    ∷ Available 2 2
    ∷ deploy_2
    ∷ Available 1 2
    ∷ []

-- each of its entries is allowed
scaled_down_is_legal : all_allowed plain opening scaled_down ≡ true
scaled_down_is_legal = refl

-- revision 1 wants no endpoint then
scaled_down-desired : desired plain 1 scaled_down ≡ 0
scaled_down-desired = refl

-- revision 1 has no available endpoint then
scaled_down-available : available 1 scaled_down ≡ 0
scaled_down-available = refl

-- revision 2 wants as many endpoints as before
scaled_down-desired_of_the_other : desired plain 2 scaled_down ≡ 2
scaled_down-desired_of_the_other = refl

-- revision 2 has as many available endpoints as before
scaled_down-available_of_the_other : available 2 scaled_down ≡ 2
scaled_down-available_of_the_other = refl

-- after a retry, a newest revision that was scaled down wants the preview's size again
desired_at_a_retry : desired with_preview 2 (Retry ∷ Outcome (ScaledDown 2) ∷ aborted) ≡ 1
desired_at_a_retry = refl

-- the available size is that of the last report
available_by_the_last_report : available 1 (Available 1 1 ∷ Available 1 2 ∷ []) ≡ 1
available_by_the_last_report = refl
