-- Strategies, an opening and pasts that several worked histories share, and the pasts after calls.
use Rattle.std.proofs.Common.{lit≤, ℕ, zero, suc, true, false, List, [], ◌∷◌, Some, None, codes}
use Rattle.bg_history.specs.declared.entry.Entry.{Entry}
use Rattle.bg_history.specs.declared.entry.Entry.TheVariants.{Deploy, Available, Outcome}
use Rattle.bg_strategy.specs.declared.strategy.Strategy.{Strategy}
use Rattle.bg_history.specs.Kept.{Opening}
use Rattle.bg_history.specs.Steps.{first_allowed}
use Rattle.bg_history_laws.specs.FullPromotion.{next_promotion_call}

-- two endpoints, no analysis, no pause
abbrev pub plain : Strategy
plain = record {
  some_replica = lit≤ tt;
  few_replicas = lit≤ tt;
  some_preview = lit≤ tt;
  few_previews = lit≤ tt;
  active_service = codes "shop";
  preview_service = Some (codes "preview");
  replicas = 2;
  preview_replicas = 2;
  auto_promotion = true;
  auto_seconds = 0;
  pre = false;
  post = false;
  delay = 30;
  revision_limit = None;
  abort_delay = 20;
  drain_limit = None;
  history_limit = 10;
}

-- an analysis before and one after the switch, only an operator promotes, and one endpoint before the switch
abbrev pub careful : Strategy
careful = record plain { some_preview = lit≤ tt; few_previews = lit≤ tt; preview_replicas = 1; auto_promotion = false; pre = true; post = true }

-- a pause of 10 seconds before the switch
abbrev pub timed : Strategy
timed = record plain { auto_seconds = 10 }

-- no old revision stays scaled, and none is kept
abbrev pub sparse : Strategy
sparse = record plain { post = true; revision_limit = Some 0; history_limit = 0; abort_delay = 0 }

abbrev pub opening : Opening
opening = record { seats = 4; template = record { name = codes "v1"; ports = 9001 ∷ 9002 ∷ [] } }

abbrev pub deploy_1 : Entry
deploy_1 = Deploy 1 (codes "v1") (9001 ∷ 9002 ∷ [])

abbrev pub deploy_2 : Entry
deploy_2 = Deploy 2 (codes "v2") (9101 ∷ 9102 ∷ [])

abbrev pub deploy_3 : Entry
deploy_3 = Deploy 3 (codes "v3") (9201 ∷ 9202 ∷ [])

-- the past after at most this many outcomes, each the first allowed one
abbrev pub settle : ℕ → Strategy → List Entry → List Entry
settle zero s past = past
settle (suc n) s past = elim (first_allowed s past) [ None ↦ past | Some x ↦ settle n s (Outcome x ∷ past) ]

-- the past after a call: its event, and the outcomes that the event allows
abbrev pub call : Strategy → Entry → List Entry → List Entry
call s e past = settle 8 s (e ∷ past)

-- the past after this many calls of a full promotion
abbrev pub go_on : ℕ → Strategy → List Entry → List Entry
go_on zero s past = past
go_on (suc n) s past = go_on n s (call s (next_promotion_call s past) past)

-- the new revision is active already, and the analysis after the switch is awaited
abbrev pub live : List Entry
live = call sparse (Available 2 2) (call sparse deploy_2 (call sparse (Available 1 2) []))

-- revision 2 is deployed, and has no available endpoint
abbrev pub begun : List Entry
begun = call careful deploy_2 []
