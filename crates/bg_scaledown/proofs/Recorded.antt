-- A table after an entry is the table of the longer past.
use Rattle.std.proofs.Common.{◌≡◌, ℕ, List, ◌∷◌, refl}
use Rattle.bg_revisions.specs.declared.revision.Selectors.{Selectors}
use Rattle.bg_history.specs.declared.entry.Entry.{Entry}
use Rattle.bg_history.specs.AttemptBounds.{moment}
use Rattle.bg_history.specs.Selections.{selectors_of}
use Rattle.bg_strategy.specs.declared.strategy.Strategy.{Strategy}
use Rattle.bg_history.specs.declared.mark.RevisionMark.{RevisionMark}
use Rattle.bg_history.specs.Tables.{Table, stamps_of, marks_of, table_of}

-- `change` is the effect of the entry on the marks
pub table-changed : (s : Strategy) (past : List Entry) (e : Entry) (change : Selectors → ℕ → ℕ → ℕ → List RevisionMark → List RevisionMark) (t u : Table) (x : Selectors) (now : ℕ)
    → t ≡ table_of s past → x ≡ selectors_of past → now ≡ moment past
    → u ≡ record { delay = t.delay; abort_delay = t.abort_delay; limit = t.limit; marks = change x now t.delay t.abort_delay t.marks }
    → marks_of (stamps_of s (e ∷ past)) ≡ change (selectors_of past) (moment past) s.delay s.abort_delay (marks_of (stamps_of s past))
    → u ≡ table_of s (e ∷ past)
table-changed s past e change t u x now kept selected at made marks = rw (made, kept, selected, at, marks) refl
