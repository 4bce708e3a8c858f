-- The number of marks in the table of a past.
use Rattle.std.proofs.Common.{◌≡◌, ◌<◌, ◌≤◌, ◌+◌, ℕ, Bool, true, false, cond, ◌==◌, List, [], ◌∷◌, ◌++◌, length, Option, Some, None, is_some, is_none, not, refl, arith, ap, ◌∙◌, inl, inr}
use Rattle.std.specs.Option.{option_map}
use Rattle.std.proofs.lemmas.Bool.Decides.{nat_tests, eqb_tells}
use Rattle.bg_strategy.specs.declared.strategy.Strategy.{Strategy}
use Rattle.bg_history.specs.declared.entry.Entry.{Entry}
use Rattle.bg_history.specs.declared.entry.Entry.TheVariants.{Deploy, Outcome}
use Rattle.bg_history.specs.declared.entry.Outcome.TheVariants.{Switched}
use Rattle.bg_history.specs.AttemptBounds.{newest_of, is_halt}
use Rattle.bg_history.specs.Selections.{active_of, selectors_of}
use Rattle.bg_history.specs.Sizes.{existing, Ascends}
use Rattle.bg_history.specs.Deadlines.{deadline, exists_in}
use Rattle.bg_history.specs.declared.mark.RevisionMark.{RevisionMark}
use Rattle.bg_scaledown.specs.Due.{mark_of, one_if, has_room_for}
use Rattle.bg_scaledown.specs.Events.{replaces_newest, goes_back, only_if, marked_by_halt, may_mark}
use Rattle.bg_history.specs.Tables.{Stamp, stamps_of, marks_of, table_of, DeadlinesInvariant}
use Rattle.bg_scaledown.proofs.Counts.{member, Distinct, is_false, ascends-distinct, length-within}
use Rattle.bg_scaledown.proofs.Once.{revisions, stamps-distinct}
use Rattle.bg_scaledown.proofs.PastRanks.{stamped-deadline}
use Rattle.bg_scaledown.proofs.PastDue.{deadline-is_deadline}
use Rattle.bg_scaledown.proofs.Room.{place, place-most, fits-so, superseded-other, room-left}

-- there is a mark for each stamp
length-marks_of : (stamps : List Stamp) → length (marks_of stamps) ≡ length (revisions stamps)
length-marks_of [] = refl
length-marks_of (stamp ∷ stamps) = omega (arith, length-marks_of stamps)

-- a revision without a deadline has no stamp
unstamped : (s : Strategy) (q : ℕ) (past : List Entry) → is_some (deadline s q past) ≡ false → member q (revisions (stamps_of s past)) ≡ false
unstamped s q past unmarked = is_false (member q (revisions (stamps_of s past))) (λ h.
    let marked : is_some (deadline s q past) ≡ true = stamped-deadline s q past h in
    absurd (cc))

-- one more existing number, in front of the existing ones
exist-more : (q x : ℕ) (xs ys : List ℕ) → member x ys ≡ true → (member q xs ≡ true → member q ys ≡ true) → member q (x ∷ xs) ≡ true → member q ys ≡ true
exist-more q x xs ys here rest h = elim (eqb_tells x q) [
  | inl e ↦ rw (← e.1) here
  | inr e ↦ rest (rw e.0 at h)
]

-- the marked revisions and the active one are different existing revisions
few-marks : (s : Strategy) (past : List Entry) → DeadlinesInvariant s past → Ascends (existing past)
    → exists_in (active_of past) past ≡ true → is_some (deadline s (active_of past) past) ≡ false
    → length (existing past) ≤ 64 → length (table_of s past).marks < 64
few-marks s past invariant ascends exists unmarked few =
    let stamped : List ℕ = revisions (stamps_of s past) in
    let within : (q : ℕ) → member q (active_of past ∷ stamped) ≡ true → member q (existing past) ≡ true =
    λ q. exist-more q (active_of past) stamped (existing past) exists (λ h. invariant.exist q (stamped-deadline s q past h)) in
    let distinct : Distinct (active_of past ∷ stamped) = (unstamped s (active_of past) past unmarked, stamps-distinct s past) in
    omega (arith, length-marks_of (stamps_of s past), length-within (active_of past ∷ stamped) (existing past) distinct (ascends-distinct (existing past) ascends) within)

-- the same with the newest revision, if it is another one
few-marks_for_two : (s : Strategy) (past : List Entry) → DeadlinesInvariant s past → Ascends (existing past)
    → exists_in (active_of past) past ≡ true → is_some (deadline s (active_of past) past) ≡ false
    → exists_in (newest_of past) past ≡ true → is_some (deadline s (newest_of past) past) ≡ false
    → (newest_of past == active_of past) ≡ false → length (existing past) ≤ 64 → length (table_of s past).marks < 63
few-marks_for_two s past invariant ascends exists unmarked newest bare other few =
    let stamped : List ℕ = revisions (stamps_of s past) in
    let within : (q : ℕ) → member q (newest_of past ∷ active_of past ∷ stamped) ≡ true → member q (existing past) ≡ true =
    λ q. exist-more q (newest_of past) (active_of past ∷ stamped) (existing past) newest
    (exist-more q (active_of past) stamped (existing past) exists (λ h. invariant.exist q (stamped-deadline s q past h))) in
    let absent : member (newest_of past) (active_of past ∷ stamped) ≡ false = grind (arith, nat_tests, unstamped s (newest_of past) past bare) in
    let distinct : Distinct (newest_of past ∷ active_of past ∷ stamped) = (absent, (unstamped s (active_of past) past unmarked, stamps-distinct s past)) in
    omega (arith, length-marks_of (stamps_of s past), length-within (newest_of past ∷ active_of past ∷ stamped) (existing past) distinct (ascends-distinct (existing past) ascends) within)

-- there is room for one revision
room-one : (s : Strategy) (q : ℕ) (past : List Entry) → length (table_of s past).marks < 64 → has_room_for (q ∷ []) (table_of s past).marks ≡ true
room-one s q past few = room-left (q ∷ []) (table_of s past).marks (omega arith)

-- a revision with a deadline has a mark in the table
marked-has_mark : (s : Strategy) (q : ℕ) (past : List Entry) → is_some (deadline s q past) ≡ true → is_none (mark_of q (table_of s past).marks) ≡ false
marked-has_mark s q past h = go (mark_of q (table_of s past).marks) (ap is_some (deadline-is_deadline s q past) ∙ h) where
  go : (o : Option RevisionMark) → is_some (option_map (λ m. m.deadline) o) ≡ true → is_none o ≡ false
  go None h = absurd (cc)
  go (Some m) h = refl

-- there is room for the newest revision and the active one, whether or not the newest one has a deadline
room-both : (s : Strategy) (past : List Entry) → DeadlinesInvariant s past → Ascends (existing past)
    → exists_in (active_of past) past ≡ true → is_some (deadline s (active_of past) past) ≡ false → exists_in (newest_of past) past ≡ true
    → length (existing past) ≤ 64 → (newest_of past == active_of past) ≡ false
    → has_room_for (newest_of past ∷ active_of past ∷ []) (table_of s past).marks ≡ true
room-both s past invariant ascends active unmarked newest few other = go (is_some (deadline s (newest_of past) past)) refl where
  go : (b : Bool) → is_some (deadline s (newest_of past) past) ≡ b → has_room_for (newest_of past ∷ active_of past ∷ []) (table_of s past).marks ≡ true
  go true h =
      let places : place (newest_of past) (table_of s past).marks ≡ 0 = ap one_if (marked-has_mark s (newest_of past) past h) in
      fits-so _ (omega (arith, places, place-most (active_of past) (table_of s past).marks, few-marks s past invariant ascends active unmarked few))
  go false h =
      room-left (newest_of past ∷ active_of past ∷ []) (table_of s past).marks
      (omega (arith, few-marks_for_two s past invariant ascends active unmarked newest h other few))

-- so there is room for the marks of a halt
room-for_halt : (s : Strategy) (past : List Entry) → length (table_of s past).marks < 64
    → ((newest_of past == active_of past) ≡ false → has_room_for (newest_of past ∷ active_of past ∷ []) (table_of s past).marks ≡ true)
    → has_room_for (marked_by_halt (selectors_of past)) (table_of s past).marks ≡ true
room-for_halt s past few both = go (newest_of past == active_of past) both where
  go : (b : Bool) → (b ≡ false → has_room_for (newest_of past ∷ active_of past ∷ []) (table_of s past).marks ≡ true)
      → has_room_for (only_if (not b) (newest_of past) ++ active_of past ∷ []) (table_of s past).marks ≡ true
  go true both = room-one s (active_of past) past few
  go false both = both refl

-- there is room for the marks of an entry
room-for : (s : Strategy) (past : List Entry) (next : Entry) → length (table_of s past).marks < 64
    → ((newest_of past == active_of past) ≡ false → has_room_for (newest_of past ∷ active_of past ∷ []) (table_of s past).marks ≡ true)
    → has_room_for (may_mark next (selectors_of past)) (table_of s past).marks ≡ true
room-for s past (Deploy r name ports) few both = go (replaces_newest (selectors_of past)) (goes_back r (selectors_of past)) (superseded-other (selectors_of past)) where
  go : (b c : Bool) → (b ≡ true → (newest_of past == active_of past) ≡ false) → has_room_for (only_if b (newest_of past) ++ only_if c (active_of past)) (table_of s past).marks ≡ true
  go true true other = both (other refl)
  go true false other = room-one s (newest_of past) past few
  go false true other = room-one s (active_of past) past few
  go false false other = room-left [] (table_of s past).marks (omega arith)
room-for s past (Outcome (Switched r)) few both = room-one s (active_of past) past few
room-for s past e few both = go (is_halt e) where
  go : (halt : Bool) → has_room_for (cond halt (marked_by_halt (selectors_of past)) []) (table_of s past).marks ≡ true
  go true = room-for_halt s past few both
  go false = room-left [] (table_of s past).marks (omega arith)

-- there is room for each revision that the next entry marks
pub next-has_room : (s : Strategy) (past : List Entry) (next : Entry) → DeadlinesInvariant s past → Ascends (existing past)
    → exists_in (active_of past) past ≡ true → is_some (deadline s (active_of past) past) ≡ false → exists_in (newest_of past) past ≡ true
    → length (existing past) ≤ 64 → has_room_for (may_mark next (selectors_of past)) (table_of s past).marks ≡ true
next-has_room s past next invariant ascends active unmarked newest few =
    room-for s past next (few-marks s past invariant ascends active unmarked few) (room-both s past invariant ascends active unmarked newest few)
