-- What is resumed from a journal, and how one begins.
use Rattle.std.specs.Prelude.{ℕ, List, Option}
use Rattle.std.specs.Io.KnownBytes.{Appends}
use Rattle.bg_strategy.specs.declared.strategy.Strategy.{Strategy}
use Rattle.bg_history.specs.declared.entry.Entry.{Entry}
use Rattle.bg_ledger.specs.declared.holding.Holding.{Holding}
use Rattle.bg_rollout.specs.Changes.{opened}
use Rattle.bg_rollout.specs.Following.{Resumes}
use Rattle.bg_rollout.specs.Refusals.{usual_limits}
use Rattle.bg_rollout.specs.Routing.{Routing}
use Rattle.bg_report.specs.Reports.{report_text}
use Rattle.bg_script.specs.declared.answering.FirstRevision.{FirstRevision}

-- the book with this number of seats, with these records, that is resumed from the entries of a journal and its first revision
abbrev pub IsResumed : Strategy → FirstRevision → ℕ → List Entry → List Holding → Routing → Type 0
IsResumed s first seats entries records book =
    Resumes (opened s first.name first.ports seats usual_limits records) entries book

-- what was written is the report of the book with one seat that is resumed from them
abbrev pub ReportsEnd : Strategy → FirstRevision → List Entry → Option (List ℕ) → Option (List ℕ) → Type 0
ReportsEnd s first entries old new = (records : List Holding) × ((book : Routing)
    × (IsResumed s first 1 entries records book × Appends old new (report_text book)))
