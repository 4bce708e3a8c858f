-- What compaction keeps of a past.
use Rattle.std.specs.Prelude.{◌≡◌, ℕ, Bool, true, not, List, ◌∷◌}
use Rattle.bg_history.specs.declared.entry.Entry.{Entry}
use Rattle.bg_history.specs.declared.entry.Entry.TheVariants.{Enter}
use Rattle.bg_history.specs.declared.entry.Outcome.{Outcome}
use Rattle.bg_strategy.specs.declared.strategy.Strategy.{Strategy}
use Rattle.bg_history.specs.Kept.{Opening}
use Rattle.bg_history.specs.AttemptBounds.{moment}
use Rattle.bg_revisions.specs.declared.revision.Service.{Service}
use Rattle.bg_history.specs.Selections.{preview_of}
use Rattle.bg_history.specs.Phases.{is_steady, is_scaling, awaits_pre, is_paused, is_sizing, awaits_post}
use Rattle.bg_history.specs.Deadlines.{deadline, is_due}
use Rattle.bg_history.specs.Templates.{namesake}
use Rattle.bg_history.specs.Allowed.{selection}
use Rattle.bg_history.specs.Requests.{open_requests, given, calls_of}
use Rattle.bg_history.specs.Steps.{IsLegal, first_allowed, Step, with_outcomes}
use Rattle.bg_history.specs.Compacted.{left_numbers, is_among, compacted, closed_after}
use Rattle.bg_history_laws.specs.Alike.{Alike, Attempted}

-- the pasts give the same answer to each question
pub record Same (s : Strategy) (o : Opening) (a b : List Entry) : Type 0 where
  pub alike : Alike s o a b
  pub now : moment a ≡ moment b
  pub held : open_requests a ≡ open_requests b

-- the same answers to further questions, which follow from those
pub record Answers (s : Strategy) (o : Opening) (a b : List Entry) : Type 0 where
  pub attempted : Attempted a b
  pub preview : preview_of a ≡ preview_of b
  pub steady : is_steady a ≡ is_steady b
  pub scaling : is_scaling a ≡ is_scaling b
  pub pre : awaits_pre s a ≡ awaits_pre s b
  pub paused : is_paused s a ≡ is_paused s b
  pub sizing : is_sizing a ≡ is_sizing b
  pub post : awaits_post s a ≡ awaits_post s b
  pub due_at : (r : ℕ) → deadline s r a ≡ deadline s r b
  pub due : (r : ℕ) → is_due s r a ≡ is_due s r b
  pub namesake_is : (name : List ℕ) → namesake o name a ≡ namesake o name b
  pub selected : (v : Service) → selection s v a ≡ selection s v b

-- what compaction keeps of a legal past
pub record Compacts (s : Strategy) (o : Opening) (closed : List ℕ)
    (past : List Entry) : Type 0 where
  pub legal : IsLegal s o (closed_after past closed) (compacted past)
  pub same : Same s o past (compacted past)
  pub answers : Answers s o past (compacted past)
  pub given : given (closed_after past closed) (compacted past) ≡ given closed past
  pub calls : (i : ℕ)
      → calls_of (closed_after past closed) i (compacted past) ≡ calls_of closed i past
  pub first : first_allowed s (compacted past) ≡ first_allowed s past

-- the entry isn't the Enter of a request that left before
abbrev pub enters_anew : Entry → List Entry → Bool
enters_anew (Enter seat service number r port) before =
    not (is_among (left_numbers before) number)
enters_anew _ before = true

-- the event leads from the compacted past to a past that gives the same answers and compacts to the same past
pub record Commutes (s : Strategy) (o : Opening) (closed : List ℕ) (e : Entry)
    (past : List Entry) (outcomes : List Outcome) (new : List Entry) : Type 0 where
  pub step : Step s e (compacted past) outcomes (with_outcomes outcomes (e ∷ compacted past))
  pub same : Same s o new (with_outcomes outcomes (e ∷ compacted past))
  pub answers : Answers s o new (with_outcomes outcomes (e ∷ compacted past))
  pub past_is : compacted (with_outcomes outcomes (e ∷ compacted past)) ≡ compacted new
  pub closed_is : closed_after (with_outcomes outcomes (e ∷ compacted past))
      (closed_after past closed) ≡ closed_after new closed
