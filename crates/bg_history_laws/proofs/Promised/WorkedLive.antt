-- Worked histories that show which revisions are live.
use Rattle.std.proofs.Common.{◌≡◌, true, false, List, [], ◌∷◌, refl}
use Rattle.bg_revisions.specs.declared.revision.Service.TheVariants as service
use Rattle.bg_history.specs.declared.entry.Entry.{Entry}
use Rattle.bg_history.specs.declared.entry.Entry.TheVariants.{Tick, Available, Verdict, Promote, Abort, Retry, Enter, Leave, Outcome}
use Rattle.bg_history.specs.declared.entry.Outcome.TheVariants.{Switched}
use Rattle.bg_history.specs.declared.entry.Analysis.TheVariants.{Pre}
use Rattle.bg_history.specs.declared.entry.AnalysisResult.TheVariants.{Successful}
use Rattle.bg_history.specs.Selections.{active_of}
use Rattle.bg_history_laws.specs.Live.{may_go_live, went_live, is_tested, met_tested, switched_tested}
use Rattle.bg_history_laws.proofs.Promised.Examples.{careful, timed, deploy_2, deploy_3, call, go_on, begun}

-- the analysis has succeeded, and an operator has promoted
abbrev tested : List Entry
tested = call careful (Available 2 2) (call careful Promote (call careful (Verdict Pre Successful) (call careful (Available 2 1) (call careful deploy_2 (call careful (Available 1 2) [])))))

tested-active : active_of tested ≡ 2
tested-active = refl

tested-tested : went_live careful 2 tested ≡ true
tested-tested = refl

-- a revision whose attempt only waits isn't tested
waiting-untested : is_tested careful 2 (call careful (Available 2 1) begun) ≡ false
waiting-untested = refl

-- if promotion isn't automatic, the success of the analysis isn't enough
analysed-unready : may_go_live careful (call careful (Verdict Pre Successful) (call careful (Available 2 1) begun)) ≡ false
analysed-unready = refl

-- a full promotion is enough
skipped-tested : went_live careful 2 (go_on 3 careful begun) ≡ true
skipped-tested = refl

-- after an abort and a retry, the promotion and the verdict before don't count
retried-unready : may_go_live careful (call careful Retry (call careful Abort tested)) ≡ false
retried-unready = refl

-- the revision was live before, so it is tested
retried-tested : is_tested careful 2 (call careful Retry (call careful Abort tested)) ≡ true
retried-tested = refl

-- each switch needs its own attempt: a made-up switch in the attempt after the retry doesn't count
made_up : switched_tested careful (Outcome (Switched 2) ∷ call careful Retry (call careful Abort tested)) ≡ false
made_up = refl

-- a pause of 10 seconds isn't over at 9, and is over at 10
paused-unready : may_go_live timed (call timed (Tick 9) (call timed (Available 2 2) (call timed deploy_2 []))) ≡ false
paused-unready = refl

paused-tested : went_live timed 2 (call timed (Tick 10) (call timed (Available 2 2) (call timed deploy_2 []))) ≡ true
paused-tested = refl

-- the active service never switched to the first revision, which is live from the opening on
first-unswitched : went_live careful 1 begun ≡ false
first-unswitched = refl

first-tested : is_tested careful 1 begun ≡ true
first-tested = refl

-- a revert makes a revision active without a switch; the revision was tested when it was promoted
back_to_2 : active_of (call careful deploy_2 (call careful deploy_3 (go_on 3 careful begun))) ≡ 2
back_to_2 = refl

back_to_2-tested : is_tested careful 2 (call careful deploy_2 (call careful deploy_3 (go_on 3 careful begun))) ≡ true
back_to_2-tested = refl

-- a request at the active service gets revision 1, and the next one gets revision 2
abbrev met : List Entry
met = call careful (Enter 0 service.Active 2 2 9101) (call careful (Leave 0 1 1) (call careful (Enter 0 service.Active 1 1 9002) (call careful (Available 1 2) [])))

met_too_early : met_tested careful met ≡ false
met_too_early = refl

met_after_test : met_tested careful (Enter 0 service.Active 1 2 9102 ∷ tested) ≡ true
met_after_test = refl
