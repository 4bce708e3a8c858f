-- The table of a past says of a revision what the past says.
use Rattle.std.proofs.Common.{◌≡◌, ◌+◌, ℕ, Bool, true, false, cond, ◌==◌, ◌||◌, nat_le, List, [], ◌∷◌, Option, Some, None, is_some, refl, arith, ◌∙◌, ap, sym}
use Rattle.std.specs.Option.{option_map}
use Rattle.std.proofs.lemmas.Bool.Decides.{nat_tests}
use Rattle.bg_history.specs.declared.entry.Entry.{Entry}
use Rattle.bg_strategy.specs.declared.strategy.Strategy.{Strategy}
use Rattle.bg_history.specs.AttemptBounds.{moment}
use Rattle.bg_history.specs.Sizes.{existing, Ascends}
use Rattle.bg_history.specs.Marks.{MarkKind, Left, Superseded, Aborted, Cleared, Mark, mark}
use Rattle.bg_history.specs.Deadlines as history
use Rattle.bg_history.specs.declared.mark.Cause.TheVariants as cause
use Rattle.bg_scaledown.specs.Due as due
use Rattle.bg_history.specs.Selections.{selectors_of}
use Rattle.bg_history.specs.Tables.{Table, Stamp, stamp_at, stamp_of, stamps_of, marks_of, table_of, DeadlinesInvariant}
use Rattle.bg_scaledown.proofs.Counts.{member}
use Rattle.bg_scaledown.proofs.Lookups.{live, stamp_of-past}
use Rattle.bg_scaledown.proofs.Once.{revisions}
use Rattle.bg_scaledown.proofs.PastRanks.{stamped-deadline, rank_in-is_rank}

-- the mark of a revision is the mark of its stamp
mark_of-stamps : (r : ℕ) (stamps : List Stamp) → due.mark_of r (marks_of stamps) ≡ option_map (λ stamp. stamp.mark) (stamp_of r stamps)
mark_of-stamps r [] = refl
mark_of-stamps r (stamp ∷ stamps) = go (stamp.mark.revision == r) r stamp stamps (mark_of-stamps r stamps) where
  go : (b : Bool) (r : ℕ) (stamp : Stamp) (stamps : List Stamp) → due.mark_of r (marks_of stamps) ≡ option_map (λ stamp. stamp.mark) (stamp_of r stamps)
      → cond b (Some stamp.mark) (due.mark_of r (marks_of stamps)) ≡ option_map (λ stamp. stamp.mark) (cond b (Some stamp) (stamp_of r stamps))
  go true r stamp stamps h = refl
  go false r stamp stamps h = h

-- the deadline in a revision's stamp is the deadline that its newest mark gives
time-live : (s : Strategy) (r : ℕ) (m : Option Mark) → option_map (λ m. m.deadline) (option_map (λ stamp. stamp.mark) (live s r m)) ≡ history.deadline_of s m
time-live s r None = refl
time-live s r (Some m) = go m.kind m.moment m.position where
  go : (k : MarkKind) (at position : ℕ) → option_map (λ m. m.deadline) (option_map (λ stamp. stamp.mark) (live s r (Some (record { kind = k; moment = at; position = position })))) ≡ history.time_of s k at
  go Left at position = refl
  go Superseded at position = refl
  go Aborted at position = refl
  go Cleared at position = refl

-- the deadlines of the table are those of the past
pub deadline-is_deadline : (s : Strategy) (r : ℕ) (past : List Entry) → due.deadline_in (table_of s past) r ≡ history.deadline s r past
deadline-is_deadline s r past =
    ap (option_map (λ m. m.deadline)) (mark_of-stamps r (stamps_of s past) ∙ ap (option_map (λ stamp. stamp.mark)) (stamp_of-past s r past))
    ∙ time-live s r (mark s r past)

-- so an answer by the table is the answer by the past
pub deadline-by_past : (s : Strategy) (r : ℕ) (past : List Entry) (t : Table) (result : Option ℕ) → t ≡ table_of s past → result ≡ due.deadline_in t r → result ≡ history.deadline s r past
deadline-by_past s r past t result kept by_table = by_table ∙ ap (λ u. due.deadline_in u r) kept ∙ deadline-is_deadline s r past

-- the revision of a stamp is one of these revisions
stamp_of-member : (r : ℕ) (stamps : List Stamp) (me : Stamp) → stamp_of r stamps ≡ Some me → member r (revisions stamps) ≡ true
stamp_of-member r [] me h = absurd (cc)
stamp_of-member r (stamp ∷ stamps) me h = grind (arith, nat_tests, stamp_of-member r stamps me)

-- a revision without a stamp isn't due
due-none : (s : Strategy) (r : ℕ) (past : List Entry) → stamp_of r (stamps_of s past) ≡ None → history.marks_due s (mark s r past) past ≡ false
    → due.is_due_in (table_of s past) r (moment past) (selectors_of past) ≡ history.is_due s r past
due-none s r past none no_mark = rw (mark_of-stamps r (stamps_of s past), none, no_mark) (grind (arith, nat_tests))

-- a revision with a stamp is due if its mark makes it due
due-some : (s : Strategy) (r : ℕ) (past : List Entry) (me : Stamp) → DeadlinesInvariant s past → stamp_of r (stamps_of s past) ≡ Some me
    → history.marks_due s (mark s r past) past ≡ due.mark_is_due (table_of s past) (moment past) (due.rank_among (selectors_of past) r (marks_of (stamps_of s past))) me.mark
    → due.is_due_in (table_of s past) r (moment past) (selectors_of past) ≡ history.is_due s r past
due-some s r past me invariant here same =
    let within : member r (revisions (stamps_of s past)) ≡ true = stamp_of-member r (stamps_of s past) me here in
    let has : is_some (history.deadline s r past) ≡ true = stamped-deadline s r past within in
    let exists : history.exists_in r past ≡ true = invariant.exist r has in
    rw (mark_of-stamps r (stamps_of s past), here, exists, invariant.scaled r has, same) refl

-- a revision is due by its newest mark
due-by_mark : (s : Strategy) (r : ℕ) (past : List Entry) (m : Option Mark) → mark s r past ≡ m → DeadlinesInvariant s past → Ascends (existing past)
    → due.is_due_in (table_of s past) r (moment past) (selectors_of past) ≡ history.is_due s r past
due-by_mark s r past None is invariant ascends = due-none s r past (stamp_of-past s r past ∙ ap (live s r) is) (rw is refl)
due-by_mark s r past (Some m) is invariant ascends = due-by_kind s r past m.kind m.moment m.position is invariant ascends where
  due-by_kind : (s : Strategy) (r : ℕ) (past : List Entry) (k : MarkKind) (at position : ℕ) → mark s r past ≡ Some (record { kind = k; moment = at; position = position }) → DeadlinesInvariant s past → Ascends (existing past)
      → due.is_due_in (table_of s past) r (moment past) (selectors_of past) ≡ history.is_due s r past
  due-by_kind s r past Left at position is invariant ascends =
      let me : Stamp = stamp_at r cause.Left (at + s.delay) position in
      let here : stamp_of r (stamps_of s past) ≡ Some me = stamp_of-past s r past ∙ ap (live s r) is in
      due-some s r past me invariant here
      (ap (λ m. history.marks_due s m past) is
      ∙ ap (λ n. nat_le (at + s.delay) (moment past) || history.reaches_limit s.revision_limit n) (sym (rank_in-is_rank s r past me invariant ascends here refl)))
  due-by_kind s r past Superseded at position is invariant ascends =
      let me : Stamp = stamp_at r cause.Superseded at position in
      due-some s r past me invariant (stamp_of-past s r past ∙ ap (live s r) is) (ap (λ m. history.marks_due s m past) is)
  due-by_kind s r past Aborted at position is invariant ascends =
      let me : Stamp = stamp_at r cause.Aborted (at + s.abort_delay) position in
      due-some s r past me invariant (stamp_of-past s r past ∙ ap (live s r) is) (ap (λ m. history.marks_due s m past) is)
  due-by_kind s r past Cleared at position is invariant ascends = due-none s r past (stamp_of-past s r past ∙ ap (live s r) is) (rw is refl)

-- the revisions that are due by the table are due by the past
pub due-is_due : (s : Strategy) (r : ℕ) (past : List Entry) → DeadlinesInvariant s past → Ascends (existing past)
    → due.is_due_in (table_of s past) r (moment past) (selectors_of past) ≡ history.is_due s r past
due-is_due s r past invariant ascends = due-by_mark s r past (mark s r past) refl invariant ascends
