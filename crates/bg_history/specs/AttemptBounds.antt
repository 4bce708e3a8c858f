-- The bounds of the attempts of a past: the begin and the end of each attempt, and its revision.
use Rattle.std.specs.Prelude.{ℕ, Bool, true, false, not, ◌==◌, ◌&&◌, ◌||◌, List, [], ◌∷◌}
use Rattle.bg_history.specs.declared.entry.Entry.{Entry}
use Rattle.bg_history.specs.declared.entry.Entry.TheVariants.{Tick, Deploy, Verdict, Abort, Retry, Outcome}
use Rattle.bg_history.specs.declared.entry.Outcome.TheVariants.{Promoted}
use Rattle.bg_history.specs.declared.entry.AnalysisResult.TheVariants.{Failed, Error}

-- the moment: the value of the newest tick, else 0
abbrev pub moment : List Entry → ℕ
moment [] = 0
moment (Tick m ∷ before) = m
moment (_ ∷ before) = moment before

-- the revision of the newest promotion, else 1
abbrev pub stable_of : List Entry → ℕ
stable_of [] = 1
stable_of (Outcome (Promoted r) ∷ before) = r
stable_of (_ ∷ before) = stable_of before

-- the revision of the newest deploy, else 1
abbrev pub newest_of : List Entry → ℕ
newest_of [] = 1
newest_of (Deploy r name ports ∷ before) = r
newest_of (_ ∷ before) = newest_of before

-- an entry that halts an attempt: an abort, or a verdict that is failed or error
abbrev pub is_halt : Entry → Bool
is_halt Abort = true
is_halt (Verdict analysis Failed) = true
is_halt (Verdict analysis Error) = true
is_halt _ = false

-- a bound of an attempt: an entry that begins or ends an attempt
abbrev pub is_attempt_bound : Entry → Bool
is_attempt_bound (Deploy r name ports) = true
is_attempt_bound Retry = true
is_attempt_bound (Outcome (Promoted r)) = true
is_attempt_bound e = is_halt e

-- an attempt runs: the newest bound is a retry, or a deploy of a revision that wasn't the stable one
abbrev pub is_running : List Entry → Bool
is_running [] = false
is_running (Deploy r name ports ∷ before) = not (r == stable_of before)
is_running (Retry ∷ before) = true
is_running (Outcome (Promoted r) ∷ before) = false
is_running (e ∷ before) = not (is_halt e) && is_running before

-- the last attempt was halted: the newest bound is an abort or a verdict that is failed or error
abbrev pub is_halted : List Entry → Bool
is_halted [] = false
is_halted (Deploy r name ports ∷ before) = false
is_halted (Retry ∷ before) = false
is_halted (Outcome (Promoted r) ∷ before) = false
is_halted (e ∷ before) = is_halt e || is_halted before
