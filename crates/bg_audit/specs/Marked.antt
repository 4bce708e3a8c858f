-- The marks that the audit keeps of a past.
use Rattle.std.specs.Prelude.{◌≡◌, ℕ, true, if◌then◌else◌, ◌==◌, List, [], ◌∷◌, ◌++◌, not, filter, find, length, Option, Some, None}
use Rattle.std.specs.List.{list_any}
use Rattle.std.specs.Option.{option_or, option_map}
use Rattle.bg_strategy.specs.declared.strategy.Strategy.{Strategy}
use Rattle.bg_history.specs.declared.entry.Entry.{Entry}
use Rattle.bg_history.specs.declared.entry.Entry.TheVariants.{Deploy, Outcome}
use Rattle.bg_history.specs.declared.entry.Outcome.TheVariants.{Removed}
use Rattle.bg_history.specs.AttemptBounds.{moment, newest_of}
use Rattle.bg_history.specs.Sizes.{is_scaled}
use Rattle.bg_history.specs.Deadlines.{exists_in}
use Rattle.bg_history.specs.Marks as past
use Rattle.bg_audit.specs.declared.marks.Mark.{Mark}
use Rattle.bg_audit.specs.declared.marks.MarkKind.{MarkKind}
use Rattle.bg_audit.specs.declared.marks.MarkKind.TheVariants.{Left, Superseded, Aborted, Cleared}
use Rattle.bg_audit.specs.declared.marks.NewestMark.{NewestMark}
use Rattle.bg_audit.specs.declared.marks.Around.{Around}
use Rattle.bg_audit.specs.AuditedState.{IsAuditedState}

-- the facts around an entry are what the past says before and after it
pub record IsAround (s : Strategy) (e : Entry) (before : List Entry) (a : Around) : Type 0 where
  pub before_is : IsAuditedState s before a.before
  pub after_is : IsAuditedState s (e ∷ before) a.after
  pub scaled_is : a.newest_is_scaled ≡ is_scaled s (newest_of before) before
  pub delay_is : a.has_abort_delay ≡ past.has_abort_delay s
  pub position_is : a.position ≡ length before

-- a kind of mark, in the type of the code
abbrev pub kind_told : past.MarkKind → MarkKind
kind_told past.Left = Left
kind_told past.Superseded = Superseded
kind_told past.Aborted = Aborted
kind_told past.Cleared = Cleared

-- a mark, in the type of the code
abbrev pub mark_told : past.Mark → Mark
mark_told m = record { kind = kind_told m.kind; moment = m.moment; position = m.position }

-- the mark that an entry makes for r, if it makes one
abbrev pub mark_at : Strategy → ℕ → Entry → List Entry → Option Mark
mark_at s r e before =
    option_map (λ kind. record {
      kind = kind_told kind;
      moment = moment (e ∷ before);
      position = length before;
    }) (past.kind_of s r e before)

-- a revision's mark after an entry
abbrev pub remarked : Strategy → Entry → List Entry → NewestMark → NewestMark
remarked s e before m = record m { mark = option_or (mark_at s m.revision e before) m.mark }

-- the marks with one more revision, which has no mark yet, unless the list has it already
abbrev pub with_revision : ℕ → List NewestMark → List NewestMark
with_revision r marks =
    if list_any (λ m. m.revision == r) marks then marks
    else marks ++ record { revision = r; mark = None } ∷ []

-- the marks with the revision that the entry deploys, and without the one that it removes
abbrev pub prepared : Entry → List NewestMark → List NewestMark
prepared (Deploy r name ports) marks = with_revision r marks
prepared (Outcome (Removed r)) marks = filter (λ m. not (m.revision == r)) marks
prepared _ marks = marks

-- the mark of an element, if there is an element and it has a mark
abbrev pub mark_there : Option NewestMark → Option Mark
mark_there None = None
mark_there (Some m) = m.mark

-- the mark of r in the list, if it has one
abbrev pub mark_in : ℕ → List NewestMark → Option Mark
mark_in r marks = mark_there (find (λ m. m.revision == r) marks)

-- the element of r after a past
abbrev pub marked : Strategy → List Entry → ℕ → NewestMark
marked s entries r = record { revision = r; mark = option_map mark_told (past.mark s r entries) }

-- the list has each existing revision with its mark
abbrev pub HasMarks : Strategy → List Entry → List NewestMark → Type 0
HasMarks s entries marks =
    (r : ℕ) → exists_in r entries ≡ true
    → find (λ m. m.revision == r) marks ≡ Some (marked s entries r)
