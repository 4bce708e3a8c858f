-- Consequences of what has happened in an attempt.
use Rattle.std.proofs.Common.{◌≡◌, ℕ, Bool, true, false, not, ◌&&◌, ◌||◌, List, [], ◌∷◌, Option, None, refl, ap, arith, is_some}
use Rattle.std.proofs.lemmas.Grind.{common_steps}
use Rattle.bg_history.specs.declared.entry.Entry.{Entry}
use Rattle.bg_history.specs.declared.entry.Entry.TheVariants.{Deploy, Verdict, Retry, Outcome}
use Rattle.bg_history.specs.declared.entry.Outcome.TheVariants.{Ready, Promoted}
use Rattle.bg_history.specs.declared.entry.AnalysisResult.TheVariants.{Successful}
use Rattle.bg_history.specs.declared.entry.Analysis.TheVariants.{Pre}
use Rattle.bg_strategy.specs.declared.strategy.Strategy.{Strategy}
use Rattle.bg_history.specs.AttemptBounds.{moment, is_attempt_bound, is_running}
use Rattle.bg_history.specs.Attempts.{in_attempt, has_ready, is_ready, first_at, is_passed, pass_moment, passes}

-- only a bound begins or ends an attempt
is_running-unbounded : (e : Entry) (before : List Entry) → is_attempt_bound e ≡ false → is_running (e ∷ before) ≡ is_running before
is_running-unbounded (Deploy r name ports) before h = grind arith
is_running-unbounded Retry before h = grind arith
is_running-unbounded (Outcome (Promoted r)) before h = grind arith
is_running-unbounded e before h = ap (λ halt. not halt && is_running before) h

-- if an entry is in the running attempt, an attempt runs
pub in_attempt_runs : (test : Entry → Bool) (past : List Entry) → in_attempt test past ≡ true → is_running past ≡ true
in_attempt_runs test [] h = grind arith
in_attempt_runs test (e ∷ before) h = grind (arith, common_steps, is_running-unbounded e before, in_attempt_runs test before)

-- the entry with which the attempt passes is its Ready, or comes after it
passes-ready : (s : Strategy) (e : Entry) (before : List Entry) → passes s e before ≡ true → ((is_ready e && is_running before) || has_ready before) ≡ true
passes-ready s (Outcome (Ready r)) before h = grind (arith, common_steps)
passes-ready s (Verdict Pre Successful) before h = grind (arith, common_steps)
passes-ready s e before h = grind arith

-- the first moment was kept before, or it is this moment
first_at-some : (now : Bool) (at : ℕ) (kept : Option ℕ) → is_some (first_at now at kept) ≡ true → (now || is_some kept) ≡ true
first_at-some true at kept h = refl
first_at-some false at kept h = h

-- if the attempt has passed, its revision is ready
passed_is_ready : (s : Strategy) (past : List Entry) → is_passed s past ≡ true → has_ready past ≡ true
passed_is_ready s [] h = grind arith
passed_is_ready s (e ∷ before) h =
    grind (arith, common_steps, passes-ready s e before, first_at-some (passes s e before) (moment before) (pass_moment s before), passed_is_ready s before)

-- if the attempt has passed, an attempt runs
pub passed_runs : (s : Strategy) (past : List Entry) → is_passed s past ≡ true → is_running past ≡ true
passed_runs s past h = in_attempt_runs is_ready past (passed_is_ready s past h)

-- if the revision isn't ready, the attempt hasn't passed
pub unready_unpassed : (s : Strategy) (past : List Entry) → has_ready past ≡ false → pass_moment s past ≡ None
unready_unpassed s past h = grind (arith, common_steps, passed_is_ready s past)
