-- The revisions that live requests reach: the first one, and those that went live as the strategy requires (Argo
-- Rollouts, "BlueGreen Deployment Strategy", `prePromotionAnalysis`, `autoPromotionEnabled`).
use Rattle.std.specs.Prelude.{ℕ, Bool, true, false, not, ◌==◌, ◌&&◌, ◌||◌, List, [], ◌∷◌, IsTrue}
use Rattle.bg_strategy.specs.declared.strategy.Strategy.{Strategy}
use Rattle.bg_revisions.specs.declared.revision.Service.TheVariants as service
use Rattle.bg_history.specs.declared.entry.Analysis.TheVariants.{Pre}
use Rattle.bg_history.specs.declared.entry.AnalysisResult.TheVariants.{Successful}
use Rattle.bg_history.specs.declared.entry.Entry.{Entry}
use Rattle.bg_history.specs.declared.entry.Entry.TheVariants.{Verdict, Enter, Outcome}
use Rattle.bg_history.specs.declared.entry.Outcome.TheVariants.{Switched}
use Rattle.bg_history.specs.AttemptBounds.{moment, stable_of}
use Rattle.bg_history.specs.Attempts.{in_attempt, has_promote, has_promote_full, pass_moment}
use Rattle.bg_history.specs.Phases.{needs_pause}
use Rattle.bg_history.specs.Promotion.{waited}
use Rattle.bg_history.specs.Selections.{active_of}

abbrev pub is_pre_success : Entry → Bool
is_pre_success (Verdict Pre Successful) = true
is_pre_success _ = false

-- the analysis before the switch has succeeded in the running attempt
abbrev pub has_pre_success : List Entry → Bool
has_pre_success past = in_attempt is_pre_success past

-- the pause of the running attempt is over: none is set, an operator has promoted it, or its
-- seconds have passed
abbrev pub is_pause_over : Strategy → List Entry → Bool
is_pause_over s past =
    not (needs_pause s) || has_promote past
    || waited s.auto_promotion s.auto_seconds (moment past) (pass_moment s past)

-- the running attempt may go live: an operator has fully promoted it; or its pause is over, and the analysis before
-- the switch has succeeded in it or none is set
abbrev pub may_go_live : Strategy → List Entry → Bool
may_go_live s past =
    has_promote_full past || ((not s.pre || has_pre_success past) && is_pause_over s past)

-- the active service switched to r, in an attempt that might go live
abbrev pub went_live : Strategy → ℕ → List Entry → Bool
went_live s r [] = false
went_live s r (Outcome (Switched q) ∷ before) =
    ((q == r) && may_go_live s before) || went_live s r before
went_live s r (_ ∷ before) = went_live s r before

-- r is the first revision, or it went live
abbrev pub is_tested : Strategy → ℕ → List Entry → Bool
is_tested s r past = (r == 1) || went_live s r past

-- each request that entered at the active service got a revision that was tested before
abbrev pub met_tested : Strategy → List Entry → Bool
met_tested s [] = true
met_tested s (Enter seat service.Active number r port ∷ before) =
    is_tested s r before && met_tested s before
met_tested s (_ ∷ before) = met_tested s before

-- each switch came in an attempt that might go live
abbrev pub switched_tested : Strategy → List Entry → Bool
switched_tested s [] = true
switched_tested s (Outcome (Switched r) ∷ before) = may_go_live s before && switched_tested s before
switched_tested s (_ ∷ before) = switched_tested s before

-- live requests reach only tested revisions
pub record OnlyTestedIsLive (s : Strategy) (past : List Entry) : Type 0 where
  pub active : IsTrue (is_tested s (active_of past) past)
  pub stable : IsTrue (is_tested s (stable_of past) past)
  pub switches : IsTrue (switched_tested s past)
  pub requests : IsTrue (met_tested s past)
