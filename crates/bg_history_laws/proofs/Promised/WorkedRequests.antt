-- Worked histories of requests, and of revisions that wait for their last request.
use Rattle.std.proofs.Common.{◌≡◌, true, false, List, [], ◌∷◌, Some, None, refl}
use Rattle.bg_revisions.specs.declared.revision.Service.TheVariants as service
use Rattle.bg_history.specs.declared.entry.Entry.{Entry}
use Rattle.bg_history.specs.declared.entry.Entry.TheVariants.{Tick, Available, Verdict, Enter, Leave, Outcome}
use Rattle.bg_history.specs.declared.entry.Outcome.TheVariants.{ScaledDown, Removed}
use Rattle.bg_history.specs.declared.entry.Analysis.TheVariants.{Post}
use Rattle.bg_history.specs.declared.entry.AnalysisResult.TheVariants.{Successful}
use Rattle.bg_history.specs.Selections.{active_of}
use Rattle.bg_history.specs.Sizes.{is_scaled}
use Rattle.bg_history.specs.Requests.{open_at}
use Rattle.bg_history.specs.Deadlines.{is_due}
use Rattle.bg_history.specs.Allowed.{is_allowed}
use Rattle.bg_history_laws.specs.OpenRequests.{open_request}
use Rattle.bg_history_laws.proofs.Promised.Examples.{plain, sparse, opening, deploy_2, call}
use Rattle.bg_history.specs.Compacted.{compacted}
use Rattle.bg_history_laws.specs.Reachable.{exists_scaled}

-- a request entered at revision 1 before revision 2 was promoted; 30 seconds have passed
abbrev draining : List Entry
draining = call plain (Tick 30) (call plain (Available 2 2) (call plain deploy_2 (call plain (Enter 0 service.Active 1 1 9002) (call plain (Available 1 2) []))))

draining_is_due : is_due plain 1 draining ≡ true
draining_is_due = refl

draining-open : open_at 1 draining ≡ 1 ∷ []
draining-open = refl

draining-kept : is_scaled plain 1 draining ≡ true
draining-kept = refl

draining-request : open_request 1 draining ≡ Some (record { seat = 0; number = 1; revision = 1; port = 9002 })
draining-request = refl

left-scaled_down : is_scaled plain 1 (call plain (Leave 0 1 1) draining) ≡ false
left-scaled_down = refl

left-first : call plain (Leave 0 1 1) draining ≡ Outcome (ScaledDown 1) ∷ Leave 0 1 1 ∷ draining
left-first = refl

left-gone : open_request 1 (call plain (Leave 0 1 1) draining) ≡ None
left-gone = refl

-- a revision that isn't due yet stays scaled when its last request leaves
abbrev early : List Entry
early = call plain (Leave 0 1 1) (call plain (Tick 29) (call plain (Available 2 2) (call plain deploy_2 (call plain (Enter 0 service.Active 1 1 9002) (call plain (Available 1 2) [])))))

early-kept : is_scaled plain 1 early ≡ true
early-kept = refl

-- with a limit of 0, a revision with an open request waits, too, and is scaled down when the request leaves
abbrev limited : List Entry
limited = call sparse (Verdict Post Successful) (call sparse (Available 2 2) (call sparse deploy_2 (call sparse (Enter 0 service.Active 1 1 9002) (call sparse (Available 1 2) []))))

limited-kept : is_scaled sparse 1 limited ≡ true
limited-kept = refl

limited-due : is_due sparse 1 limited ≡ true
limited-due = refl

limited-left : call sparse (Leave 0 1 1) limited ≡ Outcome (Removed 1) ∷ Outcome (ScaledDown 1) ∷ Leave 0 1 1 ∷ limited
limited-left = refl

-- an open request stays at its revision when the active service switches to another
draining-active : active_of draining ≡ 2
draining-active = refl

draining-revision : exists_scaled plain 1 draining ≡ true
draining-revision = refl

-- the request stays open after compaction
compacted-request : open_request 1 (compacted draining) ≡ open_request 1 draining
compacted-request = refl

-- the outcome that would scale its revision down isn't allowed
scaled_down_early : is_allowed plain opening (Outcome (ScaledDown 1)) draining ≡ false
scaled_down_early = refl

scaled_down_early-revision : exists_scaled plain 1 (Outcome (ScaledDown 1) ∷ draining) ≡ false
scaled_down_early-revision = refl

-- a Leave of a request that another seat holds isn't allowed
left_by_another : is_allowed plain opening (Leave 1 1 1) draining ≡ false
left_by_another = refl
