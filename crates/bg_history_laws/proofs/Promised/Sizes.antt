-- How many endpoints the newest revision wants while its attempt runs.
use Rattle.std.proofs.Common.{◌≡◌, ◌≤◌, ℕ, Bool, true, false, not, ◌==◌, ◌&&◌, List, [], ◌∷◌, arith, ap, sym, ◌∙◌}
use Rattle.std.proofs.lemmas.Bool.Decides.{nat_tests}
use Rattle.bg_strategy.specs.declared.strategy.Strategy.{Strategy}
use Rattle.bg_history.specs.declared.entry.Entry.{Entry}
use Rattle.bg_history.specs.declared.entry.Entry.TheVariants.{Deploy, Retry, Outcome}
use Rattle.bg_history.specs.declared.entry.Outcome.TheVariants.{Resumed, Promoted, ScaledDown}
use Rattle.bg_history.specs.Kept.{Opening}
use Rattle.bg_history.specs.AttemptBounds.{stable_of, newest_of, is_halt, is_running}
use Rattle.bg_history.specs.Attempts.{is_resumed, has_resumed}
use Rattle.bg_history.specs.Sizes.{at_least, desired}
use Rattle.bg_history.specs.Deadlines.{may_scale_down}
use Rattle.bg_history.specs.Steps.{all_allowed}
use Rattle.bg_history_laws.proofs.Tests.{and_parts, equal_itself}
use Rattle.bg_history_laws.proofs.Promised.Attempts.{resumed-step}
use Rattle.bg_history_laws.proofs.Reached.Allowing.{allowed_now, allowed_before}
use Rattle.bg_history_laws.proofs.Reached.Running.{in_attempt-running}
use Rattle.bg_history_laws.proofs.Reached.Sizes.{at_least-more}

at_least-raised : (b : Bool) (n size : ℕ) → b ≡ true → n ≤ at_least b n size
at_least-raised true n size is = omega arith
at_least-raised false n size is = absurd (cc)

-- while an attempt runs, its revision isn't scaled down
pub down-not_newest : (s : Strategy) (r : ℕ) (past : List Entry) → is_running past ≡ true → may_scale_down s r past ≡ true → (r == newest_of past) ≡ false
down-not_newest s r past runs h = grind (arith, nat_tests)

-- so it wants at least the preview's size
pub running-desired : (s : Strategy) (o : Opening) (past : List Entry) → all_allowed s o past ≡ true → is_running past ≡ true → s.preview_replicas ≤ desired s (newest_of past) past
running-desired s o [] a runs = absurd (cc)
running-desired s o (Deploy r name ports ∷ before) a runs =
    at_least-raised ((r == r) && not (r == stable_of before)) s.preview_replicas (desired s r before) (rw (equal_itself r) runs)
running-desired s o (Retry ∷ before) a runs = at_least-raised (newest_of before == newest_of before) s.preview_replicas (desired s (newest_of before) before) (equal_itself (newest_of before))
running-desired s o (Outcome (Promoted r) ∷ before) a runs = absurd (cc)
running-desired s o (Outcome (Resumed r) ∷ before) a runs =
    let more : desired s (newest_of before) before ≤ at_least (r == newest_of before) s.replicas (desired s (newest_of before) before) =
    at_least-more (r == newest_of before) s.replicas (desired s (newest_of before) before) in
    let rest = running-desired s o before (allowed_before s o (Outcome (Resumed r)) before a) runs in omega (arith, more, rest)
running-desired s o (Outcome (ScaledDown r) ∷ before) a runs =
    rw (down-not_newest s r before runs (allowed_now s o (Outcome (ScaledDown r)) before a)) (running-desired s o before (allowed_before s o (Outcome (ScaledDown r)) before a) runs)
running-desired s o (e ∷ before) a runs = running-desired s o before (allowed_before s o e before a) (and_parts (not (is_halt e)) (is_running before) runs).1

-- once it was resumed, it wants full size
pub resumed-desired : (s : Strategy) (o : Opening) (past : List Entry) → all_allowed s o past ≡ true → has_resumed past ≡ true → s.replicas ≤ desired s (newest_of past) past
resumed-desired s o [] a h = absurd (cc)
resumed-desired s o (Deploy r name ports ∷ before) a h = absurd (cc)
resumed-desired s o (Retry ∷ before) a h = absurd (cc)
resumed-desired s o (Outcome (Promoted r) ∷ before) a h = absurd (cc)
resumed-desired s o (Outcome (Resumed r) ∷ before) a h =
    let same : r ≡ newest_of before = (resumed-step s r before (allowed_now s o (Outcome (Resumed r)) before a)).newest in
    at_least-raised (r == newest_of before) s.replicas (desired s (newest_of before) before) (ap (λ k. r == k) (sym same) ∙ equal_itself r)
resumed-desired s o (Outcome (ScaledDown r) ∷ before) a h =
    rw (down-not_newest s r before (in_attempt-running is_resumed before h) (allowed_now s o (Outcome (ScaledDown r)) before a))
    (resumed-desired s o before (allowed_before s o (Outcome (ScaledDown r)) before a) h)
resumed-desired s o (e ∷ before) a h = resumed-desired s o before (allowed_before s o e before a) (and_parts (not (is_halt e)) (has_resumed before) h).1
