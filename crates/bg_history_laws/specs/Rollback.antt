-- Rollback: while an attempt runs, and whenever the newest revision isn't the stable one, one event makes both
-- services select the stable revision (Argo Rollouts, "BlueGreen Deployment Strategy", sequence of events; abort).
use Rattle.std.specs.Prelude.{◌≡◌, ℕ, ◌==◌, List, Some, is_some, IsTrue, IsFalse}
use Rattle.bg_strategy.specs.declared.strategy.Strategy.{Strategy}
use Rattle.bg_history.specs.declared.entry.Analysis.{Analysis}
use Rattle.bg_history.specs.declared.entry.AnalysisResult.TheVariants.{Failed, Error}
use Rattle.bg_history.specs.declared.entry.Entry.{Entry}
use Rattle.bg_history.specs.declared.entry.Entry.TheVariants.{Deploy, Verdict, Abort}
use Rattle.bg_history.specs.declared.entry.Outcome.{Outcome}
use Rattle.bg_history.specs.Kept.{Opening, Template}
use Rattle.bg_history.specs.AttemptBounds.{stable_of, newest_of, is_running}
use Rattle.bg_history.specs.Selections.{active_of, preview_of}
use Rattle.bg_history.specs.Sizes.{available}
use Rattle.bg_history.specs.Templates.{template}
use Rattle.bg_history.specs.Allowed.{awaits, is_allowed}
use Rattle.bg_history.specs.Steps.{Step}
use Rattle.bg_history_laws.specs.Reachable.{exists_scaled}

-- both services select r, which is stable, exists, is scaled, and has this many available endpoints; and no attempt
-- runs
pub record IsRolledBack (s : Strategy) (r endpoints : ℕ) (past : List Entry) : Type 0 where
  pub active : active_of past ≡ r
  pub preview : preview_of past ≡ r
  pub stable : stable_of past ≡ r
  pub exists_and_scaled : IsTrue (exists_scaled s r past)
  pub available : available r past ≡ endpoints
  pub ended : IsFalse (is_running past)

-- the event is allowed; after it, both services select the stable revision, which has as many available endpoints as
-- before
pub record RollsBack (s : Strategy) (o : Opening) (e : Entry) (past : List Entry) : Type 0 where
  pub allowed : IsTrue (is_allowed s o e past)
  pub back : (outcomes : List Outcome) (new : List Entry) → Step s e past outcomes new
      → IsRolledBack s (stable_of past) (available (stable_of past) past) new

-- the rollbacks that a past allows
pub record CanRollBack (s : Strategy) (o : Opening) (past : List Entry) : Type 0 where
  -- a running attempt may be aborted
  pub abort : IsTrue (is_running past) → RollsBack s o Abort past
  -- an awaited analysis may end with failed or error
  pub failed : (analysis : Analysis) → IsTrue (awaits analysis s past)
      → RollsBack s o (Verdict analysis Failed) past
  pub error : (analysis : Analysis) → IsTrue (awaits analysis s past)
      → RollsBack s o (Verdict analysis Error) past
  -- the stable revision has a template, which may be deployed again in every phase while another revision is the newest
  pub template_is : IsTrue (is_some (template o (stable_of past) past))
  pub revert : (t : Template) → template o (stable_of past) past ≡ Some t
      → IsFalse (newest_of past == stable_of past)
      → RollsBack s o (Deploy (stable_of past) t.name t.ports) past
