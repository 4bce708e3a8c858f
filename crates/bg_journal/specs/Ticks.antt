-- Entries without superseded ticks: those that another tick directly follows.
use Rattle.std.specs.Prelude.{◌≡◌, ℕ, List}
use Rattle.bg_history.specs.declared.entry.Entry.{Entry}
use Rattle.bg_history.specs.declared.entry.Entry.TheVariants.{Tick}
use Rattle.bg_strategy.specs.declared.strategy.Strategy.{Strategy}
use Rattle.bg_history.specs.Kept.{Opening}
use Rattle.bg_history.specs.Compacted.{thin, untick}
use Rattle.bg_history.specs.Requests.{calls_of}
use Rattle.bg_history.specs.Steps.{IsLegal}
use Rattle.bg_history.specs.Tables.{table_of}
use Rattle.bg_history_laws.specs.Compaction.{Answers, Same}

-- the past that stays when the entry comes: a tick supersedes a tick that it directly follows
abbrev pub left_by : Entry → List Entry → List Entry
left_by (Tick m) past = untick past
left_by _ past = past

-- what a legal past without entries of requests keeps when its superseded ticks are dropped: it is legal, and each
-- question has the same answer
pub record KeepsWithoutTicks (s : Strategy) (o : Opening) (closed : List ℕ) (past : List Entry) : Type 0 where
  pub legal : IsLegal s o closed (thin past)
  pub same : Same s o past (thin past)
  pub answers : Answers s o past (thin past)
  pub table : table_of s (thin past) ≡ table_of s past
  pub calls : (seat : ℕ) → calls_of closed seat (thin past) ≡ calls_of closed seat past
