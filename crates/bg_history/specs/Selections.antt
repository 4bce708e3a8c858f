-- The revisions that the services select.
use Rattle.std.specs.Prelude.{ℕ, Bool, if◌then◌else◌, ◌==◌, ◌||◌, List, [], ◌∷◌}
use Rattle.bg_revisions.specs.declared.revision.Selectors.{Selectors}
use Rattle.bg_history.specs.declared.entry.Entry.{Entry}
use Rattle.bg_history.specs.declared.entry.Entry.TheVariants.{Deploy, Outcome}
use Rattle.bg_history.specs.declared.entry.Outcome.TheVariants.{Switched}
use Rattle.bg_history.specs.AttemptBounds.{stable_of, newest_of, is_halt, is_running}

-- the newest revision while an attempt runs, else the stable one
abbrev pub preview_of : List Entry → ℕ
preview_of past = if is_running past then newest_of past else stable_of past

-- the revision of the newest switch; an entry that halts an attempt and a deploy of the stable revision go back to
-- the stable revision
abbrev pub active_of : List Entry → ℕ
active_of [] = 1
active_of (Outcome (Switched r) ∷ before) = r
active_of (Deploy r name ports ∷ before) = if r == stable_of before then r else active_of before
active_of (e ∷ before) = if is_halt e then stable_of before else active_of before

-- r is active, preview or stable
abbrev pub is_selected : ℕ → List Entry → Bool
is_selected r past = (r == active_of past) || (r == preview_of past) || (r == stable_of past)

-- the active, preview, stable and newest revisions
abbrev pub selectors_of : List Entry → Selectors
selectors_of past = record {
  active = active_of past;
  preview = preview_of past;
  stable = stable_of past;
  newest = newest_of past;
}
