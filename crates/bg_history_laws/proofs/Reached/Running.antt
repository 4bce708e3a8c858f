-- While an attempt runs, and after it was halted, the newest revision isn't the stable one.
use Rattle.std.proofs.Common.{◌≡◌, Bool, true, false, not, cond, ◌==◌, ◌&&◌, ◌||◌, List, [], ◌∷◌, refl, ap}
use Rattle.bg_strategy.specs.declared.strategy.Strategy.{Strategy}
use Rattle.bg_history.specs.declared.entry.Entry.{Entry}
use Rattle.bg_history.specs.declared.entry.Entry.TheVariants.{Deploy, Verdict, Abort, Retry, Outcome}
use Rattle.bg_history.specs.declared.entry.Outcome.TheVariants.{Switched, Promoted}
use Rattle.bg_history.specs.declared.entry.Analysis.{Analysis}
use Rattle.bg_history.specs.declared.entry.Analysis.TheVariants.{Pre, Post}
use Rattle.bg_history.specs.Kept.{Opening}
use Rattle.bg_history.specs.AttemptBounds.{stable_of, newest_of, is_halt, is_running, is_halted}
use Rattle.bg_history.specs.Selections.{active_of}
use Rattle.bg_history.specs.Attempts.{in_attempt, is_ready, has_ready, has_resumed, is_switched, has_switched, is_passed}
use Rattle.bg_history.specs.Allowed.{awaits}
use Rattle.bg_history.specs.Steps.{all_allowed}
use Rattle.bg_history_laws.proofs.Tests.{and_parts, and_both, or_right, not_true, or_left}
use Rattle.bg_history_laws.proofs.Reached.Allowing.{allowed_now, allowed_before}

-- an entry of the attempt is this one or an earlier one
this_or_earlier : (test running earlier : Bool) → (earlier ≡ true → running ≡ true) → (test && running) || earlier ≡ true → running ≡ true
this_or_earlier test true earlier rest h = refl
this_or_earlier true false earlier rest h = rest h
this_or_earlier false false earlier rest h = rest h

-- an entry of the running attempt implies that an attempt runs
pub in_attempt-running : (test : Entry → Bool) (past : List Entry) → in_attempt test past ≡ true → is_running past ≡ true
in_attempt-running test [] h = absurd (cc)
in_attempt-running test (Deploy r name ports ∷ before) h = absurd (cc)
in_attempt-running test (Retry ∷ before) h = absurd (cc)
in_attempt-running test (Outcome (Promoted r) ∷ before) h = absurd (cc)
in_attempt-running test (e ∷ before) h =
    let parts = and_parts (not (is_halt e)) ((test e && is_running before) || in_attempt test before) h in
    and_both (not (is_halt e)) (is_running before) parts.0 (this_or_earlier (test e) (is_running before) (in_attempt test before) (in_attempt-running test before) parts.1)

-- an analysis is awaited only while an attempt runs
awaits-running : (s : Strategy) (analysis : Analysis) (past : List Entry) → awaits analysis s past ≡ true → is_running past ≡ true
awaits-running s Pre past h =
    let unpassed = and_parts (has_ready past && not (has_resumed past) && s.pre) (not (is_passed s past)) h in
    let unresumed = and_parts (has_ready past && not (has_resumed past)) s.pre unpassed.0 in
    in_attempt-running is_ready past (and_parts (has_ready past) (not (has_resumed past)) unresumed.0).0
awaits-running s Post past h = in_attempt-running is_switched past (and_parts (has_switched past) s.post h).0

-- an entry halts an attempt only while one runs
pub halt-running : (s : Strategy) (o : Opening) (e : Entry) (before : List Entry) → all_allowed s o (e ∷ before) ≡ true → is_halt e ≡ true → is_running before ≡ true
halt-running s o Abort before a h = allowed_now s o Abort before a
halt-running s o (Verdict analysis result) before a h = awaits-running s analysis before (allowed_now s o (Verdict analysis result) before a)
halt-running s o e before a h = absurd (cc)

-- an entry that halts an attempt makes the stable revision the active one
pub halt-active : (e : Entry) (before : List Entry) → is_halt e ≡ true → active_of (e ∷ before) ≡ stable_of before
halt-active (Deploy r name ports) before h = absurd (cc)
halt-active (Outcome (Switched r)) before h = absurd (cc)
halt-active e before h = ap (λ halt. cond halt (stable_of before) (active_of before)) h

-- if an attempt runs or was halted after an entry that begins and promotes none, one ran or was halted before it
ran_or_halted : (halt running halted : Bool) → (halt ≡ true → running ≡ true) → (not halt && running) || (halt || halted) ≡ true → running || halted ≡ true
ran_or_halted true running halted runs h = or_left running halted (runs refl)
ran_or_halted false running halted runs h = h

-- the newest revision isn't the stable one
pub newest_not_stable : (s : Strategy) (o : Opening) (past : List Entry) → all_allowed s o past ≡ true → is_running past || is_halted past ≡ true
    → (newest_of past == stable_of past) ≡ false
newest_not_stable s o [] a h = absurd (cc)
newest_not_stable s o (Deploy r name ports ∷ before) a h = not_true (r == stable_of before) (deployed (r == stable_of before) h) where
  deployed : (b : Bool) → not b || false ≡ true → not b ≡ true
  deployed true h = absurd (cc)
  deployed false h = refl
newest_not_stable s o (Retry ∷ before) a h =
    newest_not_stable s o before (allowed_before s o Retry before a) (or_right (is_running before) (is_halted before) (allowed_now s o Retry before a))
newest_not_stable s o (Outcome (Promoted r) ∷ before) a h = absurd (cc)
newest_not_stable s o (e ∷ before) a h =
    newest_not_stable s o before (allowed_before s o e before a) (ran_or_halted (is_halt e) (is_running before) (is_halted before) (halt-running s o e before a) h)
