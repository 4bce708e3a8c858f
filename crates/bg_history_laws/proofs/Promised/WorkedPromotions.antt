-- Worked histories of full promotions.
use Rattle.std.proofs.Common.{◌≡◌, true, false, refl}
use Rattle.bg_history.specs.declared.entry.Entry.TheVariants.{Available, Abort, Retry}
use Rattle.bg_history.specs.AttemptBounds.{stable_of, newest_of, is_running}
use Rattle.bg_history.specs.Selections.{active_of}
use Rattle.bg_history.specs.Sizes.{available}
use Rattle.bg_history.specs.Steps.{all_allowed}
use Rattle.bg_history_laws.proofs.Promised.Examples.{plain, careful, sparse, opening, call, go_on, live, begun}

-- three calls: a full promotion, a report of one endpoint for the preview, and a report of both
begun-after_1 : newest_of (go_on 1 careful begun) ≡ 2
begun-after_1 = refl

begun-runs_after_2 : is_running (go_on 2 careful begun) ≡ true
begun-runs_after_2 = refl

begun-ended_after_3 : is_running (go_on 3 careful begun) ≡ false
begun-ended_after_3 = refl

begun-active : active_of (go_on 3 careful begun) ≡ 2
begun-active = refl

begun-stable : stable_of (go_on 3 careful begun) ≡ 2
begun-stable = refl

begun-legal : all_allowed careful opening (go_on 3 careful begun) ≡ true
begun-legal = refl

-- one call, while the analysis after the switch is awaited
live-ended_after_1 : stable_of (go_on 1 sparse live) ≡ 2
live-ended_after_1 = refl

-- one call after a retry, if the endpoints are still available
retried-ended_after_1 : active_of (go_on 1 sparse (call sparse Retry (call sparse Abort live))) ≡ 2
retried-ended_after_1 = refl

-- two calls, if full size is no more than the size before the switch
plain-ended_after_2 : stable_of (go_on 2 (record careful { some_preview = plain.some_preview; few_previews = plain.few_previews; preview_replicas = 2 }) begun) ≡ 2
plain-ended_after_2 = refl

-- a revision that lost its endpoints after the switch is promoted without them: the law promises no size
lost-legal : all_allowed sparse opening (go_on 1 sparse (call sparse (Available 2 0) live)) ≡ true
lost-legal = refl

lost-stable : stable_of (go_on 1 sparse (call sparse (Available 2 0) live)) ≡ 2
lost-stable = refl

lost-available : available 2 (go_on 1 sparse (call sparse (Available 2 0) live)) ≡ 0
lost-available = refl
