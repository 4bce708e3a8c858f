-- The entries of the running attempt.
use Rattle.std.specs.Prelude.{ℕ, Bool, true, false, not, if◌then◌else◌, ◌&&◌, ◌||◌, List, [], ◌∷◌, Option, Some, None, is_some}
use Rattle.bg_history.specs.declared.entry.Entry.{Entry}
use Rattle.bg_history.specs.declared.entry.Entry.TheVariants.{Verdict, Promote, PromoteFull, Outcome}
use Rattle.bg_history.specs.declared.entry.Outcome.TheVariants.{Ready, Resumed, Switched}
use Rattle.bg_history.specs.declared.entry.AnalysisResult.TheVariants.{Successful}
use Rattle.bg_history.specs.declared.entry.Analysis.TheVariants.{Pre, Post}
use Rattle.bg_strategy.specs.declared.strategy.Strategy.{Strategy}
use Rattle.bg_history.specs.AttemptBounds.{moment, is_attempt_bound, is_running}

-- the running attempt has an entry that passes the test
abbrev pub in_attempt : (Entry → Bool) → List Entry → Bool
in_attempt test [] = false
in_attempt test (e ∷ before) =
    not (is_attempt_bound e) && ((test e && is_running before) || in_attempt test before)

abbrev pub is_ready : Entry → Bool
is_ready (Outcome (Ready r)) = true
is_ready _ = false

abbrev pub is_resumed : Entry → Bool
is_resumed (Outcome (Resumed r)) = true
is_resumed _ = false

abbrev pub is_switched : Entry → Bool
is_switched (Outcome (Switched r)) = true
is_switched _ = false

abbrev pub is_promote : Entry → Bool
is_promote Promote = true
is_promote _ = false

abbrev pub is_promote_full : Entry → Bool
is_promote_full PromoteFull = true
is_promote_full _ = false

abbrev pub is_post_success : Entry → Bool
is_post_success (Verdict Post Successful) = true
is_post_success _ = false

abbrev pub has_ready : List Entry → Bool
has_ready past = in_attempt is_ready past

abbrev pub has_resumed : List Entry → Bool
has_resumed past = in_attempt is_resumed past

abbrev pub has_switched : List Entry → Bool
has_switched past = in_attempt is_switched past

abbrev pub has_promote : List Entry → Bool
has_promote past = in_attempt is_promote past

abbrev pub has_promote_full : List Entry → Bool
has_promote_full past = in_attempt is_promote_full past

abbrev pub has_post_success : List Entry → Bool
has_post_success past = in_attempt is_post_success past

-- the entry with which the attempt passes the first part: Ready if no analysis is set before the switch, else the
-- success of that analysis after Ready
abbrev pub passes : Strategy → Entry → List Entry → Bool
passes s (Outcome (Ready r)) before = not s.pre && is_running before
passes s (Verdict Pre Successful) before = s.pre && has_ready before
passes s _ before = false

-- the kept moment; if there is none and the test holds, this moment
abbrev pub first_at : Bool → ℕ → Option ℕ → Option ℕ
first_at false at kept = kept
first_at true at None = Some at
first_at true at (Some kept) = Some kept

-- the moment of the first such entry in the running attempt, if there is one
abbrev pub pass_moment : Strategy → List Entry → Option ℕ
pass_moment s [] = None
pass_moment s (e ∷ before) =
    if is_attempt_bound e then None
    else first_at (passes s e before) (moment before) (pass_moment s before)

abbrev pub is_passed : Strategy → List Entry → Bool
is_passed s past = is_some (pass_moment s past)
