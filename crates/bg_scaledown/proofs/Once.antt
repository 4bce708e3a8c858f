-- The stamps of a past name each revision once.
use Rattle.std.proofs.Common.{◌≡◌, ℕ, Bool, true, false, not, cond, ◌==◌, List, [], ◌∷◌, length, Option, Some, None, refl, arith}
use Rattle.std.proofs.lemmas.Bool.Decides.{nat_tests}
use Rattle.bg_strategy.specs.declared.strategy.Strategy.{Strategy}
use Rattle.bg_history.specs.declared.entry.Entry.{Entry}
use Rattle.bg_history.specs.AttemptBounds.{moment}
use Rattle.bg_history.specs.Marks.{MarkKind, Left, Superseded, Aborted, Cleared, kind_of}
use Rattle.bg_history.specs.Tables.{Stamp, others, stamped, touched, stamp_all, stamps_of}
use Rattle.bg_scaledown.proofs.Counts.{member, Distinct}

-- the revisions of the stamps
abbrev pub revisions : List Stamp → List ℕ
revisions [] = []
revisions (stamp ∷ stamps) = stamp.mark.revision ∷ revisions stamps

-- a revision without a stamp has none after stamps are dropped
member-cond : (b : Bool) (q : ℕ) (stamp : Stamp) (stamps : List Stamp) → (b ≡ true → (stamp.mark.revision == q) ≡ false) → member q (revisions stamps) ≡ false → member q (revisions (cond b (stamp ∷ stamps) stamps)) ≡ false
member-cond true q stamp stamps here h = grind (arith, here refl)
member-cond false q stamp stamps here h = h

member-others : (q r : ℕ) (stamps : List Stamp) → member q (revisions stamps) ≡ false → member q (revisions (others r stamps)) ≡ false
member-others q r [] h = refl
member-others q r (stamp ∷ stamps) h =
    member-cond (not (stamp.mark.revision == r)) q stamp (others r stamps) (λ _. grind (arith, nat_tests)) (member-others q r stamps (grind (arith, nat_tests)))

-- the stamps of other revisions have none of a revision
member-others_same : (q : ℕ) (stamps : List Stamp) → member q (revisions (others q stamps)) ≡ false
member-others_same q [] = refl
member-others_same q (stamp ∷ stamps) =
    member-cond (not (stamp.mark.revision == q)) q stamp (others q stamps) (λ b. grind (arith, nat_tests)) (member-others_same q stamps)

-- stamps of different revisions are still of different revisions after some are dropped
distinct-cond : (b : Bool) (stamp : Stamp) (stamps : List Stamp) → member stamp.mark.revision (revisions stamps) ≡ false → Distinct (revisions stamps) → Distinct (revisions (cond b (stamp ∷ stamps) stamps))
distinct-cond true stamp stamps here h = (here, h)
distinct-cond false stamp stamps here h = h

distinct-others : (q : ℕ) (stamps : List Stamp) → Distinct (revisions stamps) → Distinct (revisions (others q stamps))
distinct-others q [] h = tt
distinct-others q (stamp ∷ stamps) h =
    distinct-cond (not (stamp.mark.revision == q)) stamp (others q stamps) (member-others stamp.mark.revision q stamps h.0) (distinct-others q stamps h.1)

-- the same holds after the marks of an entry
distinct-stamped : (s : Strategy) (k : Option MarkKind) (q at position : ℕ) (stamps : List Stamp) → Distinct (revisions stamps) → Distinct (revisions (stamped s k q at position stamps))
distinct-stamped s None q at position stamps h = h
distinct-stamped s (Some Left) q at position stamps h = (member-others_same q stamps, distinct-others q stamps h)
distinct-stamped s (Some Superseded) q at position stamps h = (member-others_same q stamps, distinct-others q stamps h)
distinct-stamped s (Some Aborted) q at position stamps h = (member-others_same q stamps, distinct-others q stamps h)
distinct-stamped s (Some Cleared) q at position stamps h = distinct-others q stamps h

distinct-stamp_all : (s : Strategy) (e : Entry) (before : List Entry) (qs : List ℕ) (stamps : List Stamp) → Distinct (revisions stamps) → Distinct (revisions (stamp_all s e before qs stamps))
distinct-stamp_all s e before [] stamps h = h
distinct-stamp_all s e before (q ∷ qs) stamps h = distinct-stamped s (kind_of s q e before) q (moment (e ∷ before)) (length before) (stamp_all s e before qs stamps) (distinct-stamp_all s e before qs stamps h)

-- the stamps of a past name each revision once
pub stamps-distinct : (s : Strategy) (past : List Entry) → Distinct (revisions (stamps_of s past))
stamps-distinct s [] = tt
stamps-distinct s (e ∷ before) = distinct-stamp_all s e before (touched e before) (stamps_of s before) (stamps-distinct s before)
