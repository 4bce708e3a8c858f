-- The revisions that the services select.
use Rattle.std.proofs.Common.{◌≡◌, true, false, List, ◌∷◌, refl}
use Rattle.bg_history.specs.declared.entry.Entry.{Entry}
use Rattle.bg_history.specs.declared.entry.Entry.TheVariants.{Verdict, Abort}
use Rattle.bg_history.specs.declared.entry.Analysis.TheVariants.{Post}
use Rattle.bg_history.specs.declared.entry.AnalysisResult.TheVariants.{Error}
use Rattle.bg_history.proofs.Examples.{deploy_3, switched, promoted}
use Rattle.bg_history.specs.AttemptBounds.{stable_of}
use Rattle.bg_history.specs.Selections.{active_of, preview_of, is_selected}

-- after the switch the new revision is active
switched-active : active_of switched ≡ 2
switched-active = refl

-- after the switch the other revision is still stable
switched-stable : stable_of switched ≡ 1
switched-stable = refl

-- an abort after the switch goes back to the stable revision
aborted-active : active_of (Abort ∷ switched) ≡ 1
aborted-active = refl

-- an analysis that ends with error goes back to the stable revision, too
error-active : active_of (Verdict Post Error ∷ switched) ≡ 1
error-active = refl

-- revision 3 is deployed during the analysis of revision 2
abbrev deployed_over : List Entry
deployed_over = deploy_3 ∷ switched

-- the active service stays at revision 2
deployed_over-active : active_of deployed_over ≡ 2
deployed_over-active = refl

-- the preview service goes to revision 3
deployed_over-preview : preview_of deployed_over ≡ 3
deployed_over-preview = refl

-- revision 2 is selected: it is active
active_is_selected : is_selected 2 deployed_over ≡ true
active_is_selected = refl

-- revision 3 is selected: it is the preview
preview_is_selected : is_selected 3 deployed_over ≡ true
preview_is_selected = refl

-- revision 1 is selected: it is stable
stable_is_selected : is_selected 1 deployed_over ≡ true
stable_is_selected = refl

-- after the promotion of revision 2, revision 1 isn't selected any more
old_is_not_selected : is_selected 1 promoted ≡ false
old_is_not_selected = refl
