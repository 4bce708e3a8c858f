-- Strategies, an opening and pasts that several worked histories share.
use Rattle.std.proofs.Common.{lit≤, true, false, List, [], ◌∷◌, Some, None, codes}
use Rattle.bg_history.specs.declared.entry.Entry.{Entry}
use Rattle.bg_history.specs.declared.entry.Entry.TheVariants.{Tick, Deploy, Available, Verdict, Abort, Outcome}
use Rattle.bg_history.specs.declared.entry.Outcome.TheVariants.{Ready, Resumed, Switched, Promoted, ScaledDown, Removed}
use Rattle.bg_history.specs.declared.entry.Analysis.TheVariants.{Pre}
use Rattle.bg_history.specs.declared.entry.AnalysisResult.TheVariants.{Successful}
use Rattle.bg_strategy.specs.declared.strategy.Strategy.{Strategy}
use Rattle.bg_history.specs.Kept.{Opening}

-- two endpoints for each revision, no analysis, no pause, 30 seconds until an old revision is scaled down, and 20
-- until an aborted one is
abbrev pub plain : Strategy
plain = record {
  some_replica = lit≤ tt;
  few_replicas = lit≤ tt;
  some_preview = lit≤ tt;
  few_previews = lit≤ tt;
  active_service = codes "shop";
  preview_service = None;
  replicas = 2;
  preview_replicas = 2;
  auto_promotion = true;
  auto_seconds = 0;
  pre = false;
  post = false;
  delay = 30;
  revision_limit = None;
  abort_delay = 20;
  drain_limit = None;
  history_limit = 10;
}

-- one endpoint before the switch, and a service that selects the new revision
abbrev pub with_preview : Strategy
with_preview = record plain {
  some_preview = lit≤ tt;
  few_previews = lit≤ tt;
  preview_service = Some (codes "preview");
  preview_replicas = 1;
}

-- an analysis before the switch, and a pause of 10 seconds after it
abbrev pub with_pause : Strategy
with_pause = record plain { pre = true; auto_seconds = 10 }

-- an analysis after the switch
abbrev pub with_post : Strategy
with_post = record plain { post = true }

-- at most one old revision stays scaled
abbrev pub with_limit : Strategy
with_limit = record plain { revision_limit = Some 1 }

-- an aborted revision stays scaled
abbrev pub without_abort_delay : Strategy
without_abort_delay = record plain { post = true; abort_delay = 0 }

-- no old revision is kept
abbrev pub without_history : Strategy
without_history = record plain { history_limit = 0 }

-- 4 seats, and revision 1
abbrev pub opening : Opening
opening = record { seats = 4; template = record { name = codes "v1"; ports = 9001 ∷ 9002 ∷ [] } }

abbrev pub deploy_1 : Entry
deploy_1 = Deploy 1 (codes "v1") (9001 ∷ 9002 ∷ [])

abbrev pub deploy_2 : Entry
deploy_2 = Deploy 2 (codes "v2") (9101 ∷ 9102 ∷ [])

abbrev pub deploy_3 : Entry
deploy_3 = Deploy 3 (codes "v3") (9201 ∷ 9202 ∷ [])

abbrev pub deploy_4 : Entry
deploy_4 = Deploy 4 (codes "v4") (9301 ∷ 9302 ∷ [])

-- revision 2 is deployed, and has its endpoints
abbrev pub grown : List Entry
grown = Available 2 2 ∷ deploy_2 ∷ []

-- it is ready, then grows to full size, is switched to and promoted, all at moment 0
abbrev pub ready : List Entry
ready = Outcome (Ready 2) ∷ grown

abbrev pub resumed : List Entry
resumed = Outcome (Resumed 2) ∷ ready

abbrev pub switched : List Entry
switched = Outcome (Switched 2) ∷ resumed

abbrev pub promoted : List Entry
promoted = Outcome (Promoted 2) ∷ switched

-- the analysis before the switch succeeds at moment 5
abbrev pub paused : List Entry
paused = Verdict Pre Successful ∷ Tick 5 ∷ ready

-- an operator aborts in the pause
abbrev pub aborted : List Entry
aborted = Abort ∷ paused

-- revision 3 is promoted after revision 2
abbrev pub promoted_twice : List Entry
promoted_twice =
    Outcome (Promoted 3)
    ∷ Outcome (Switched 3)
    ∷ Outcome (Resumed 3)
    ∷ Outcome (Ready 3)
    ∷ Available 3 2
    ∷ deploy_3
    ∷ promoted

-- revision 3 is deployed in place of revision 2, which is scaled down and removed
abbrev pub superseded : List Entry
superseded = Outcome (Removed 2) ∷ Outcome (ScaledDown 2) ∷ deploy_3 ∷ deploy_2 ∷ []
