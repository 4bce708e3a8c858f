-- Worked histories of rollbacks. Read each from its last line up: the oldest entry is first.
use Rattle.std.proofs.Common.{◌≡◌, true, false, [], ◌∷◌, refl}
use Rattle.bg_history.specs.declared.entry.Entry.TheVariants.{Available, Verdict, Abort, Retry}
use Rattle.bg_history.specs.declared.entry.Analysis.TheVariants.{Pre, Post}
use Rattle.bg_history.specs.declared.entry.AnalysisResult.TheVariants.{Failed}
use Rattle.bg_history.specs.Selections.{active_of, preview_of}
use Rattle.bg_history.specs.Sizes.{existing, desired, available}
use Rattle.bg_history.specs.Allowed.{is_allowed}
use Rattle.bg_history.specs.Steps.{all_allowed, is_settled}
use Rattle.bg_history_laws.proofs.Promised.Examples.{careful, sparse, opening, deploy_1, deploy_2, call, live}

live-active : active_of live ≡ 2
live-active = refl

live_is_settled : is_settled sparse live ≡ true
live_is_settled = refl

live_is_legal : all_allowed sparse opening live ≡ true
live_is_legal = refl

-- the stable revision is still scaled, regardless of the limit for old revisions
live-stable : available 1 live ≡ 2
live-stable = refl

abort_is_allowed : is_allowed sparse opening Abort live ≡ true
abort_is_allowed = refl

aborted-active : active_of (call sparse Abort live) ≡ 1
aborted-active = refl

aborted-preview : preview_of (call sparse Abort live) ≡ 1
aborted-preview = refl

aborted-stable : available 1 (call sparse Abort live) ≡ 2
aborted-stable = refl

-- if the strategy has no delay for aborted revisions, the new one stays scaled
aborted-newest : desired sparse 2 (call sparse Abort live) ≡ 2
aborted-newest = refl

failed-active : active_of (call sparse (Verdict Post Failed) live) ≡ 1
failed-active = refl

-- a deploy of the stable revision does the same; if the strategy keeps no old revision, the other is removed at once
revert_is_allowed : is_allowed sparse opening deploy_1 live ≡ true
revert_is_allowed = refl

reverted-active : active_of (call sparse deploy_1 live) ≡ 1
reverted-active = refl

reverted-existing : existing (call sparse deploy_1 live) ≡ 1 ∷ []
reverted-existing = refl

-- it is also allowed after an abort
aborted-revert : is_allowed sparse opening deploy_1 (call sparse Abort live) ≡ true
aborted-revert = refl

-- it isn't allowed if the stable revision is the newest one, as at the opening
revert_of_the_newest : is_allowed sparse opening deploy_1 [] ≡ false
revert_of_the_newest = refl

-- then an abort isn't allowed either
abort_of_none : is_allowed sparse opening Abort [] ≡ false
abort_of_none = refl

-- the stable revision has as many endpoints as before, which may be none
none-before : available 1 (call careful deploy_2 []) ≡ 0
none-before = refl

none-after : available 1 (call careful Abort (call careful deploy_2 [])) ≡ 0
none-after = refl

-- a retry doesn't move the active service, and may be aborted at once
retried-active : active_of (call sparse Retry (call sparse Abort (call sparse (Available 2 0) live))) ≡ 1
retried-active = refl

retried-abort : is_allowed sparse opening Abort (call sparse Retry (call sparse Abort (call sparse (Available 2 0) live))) ≡ true
retried-abort = refl

-- after the analysis before the switch failed, both services select the stable revision
pre_failed-preview : preview_of (call careful (Verdict Pre Failed) (call careful (Available 2 1) (call careful deploy_2 []))) ≡ 1
pre_failed-preview = refl
