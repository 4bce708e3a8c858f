-- The order in which the revisions of a past left the active service.
use Rattle.std.proofs.Common.{◌≡◌, ◌<◌, ◌≤◌, ◌+◌, ℕ, suc, Bool, true, false, not, cond, ◌==◌, List, [], ◌∷◌, length, Option, Some, None, refl, arith}
use Rattle.std.proofs.lemmas.Bool.Decides.{nat_tests}
use Rattle.bg_strategy.specs.declared.strategy.Strategy.{Strategy}
use Rattle.bg_history.specs.declared.entry.Entry.{Entry}
use Rattle.bg_history.specs.AttemptBounds.{moment}
use Rattle.bg_history.specs.Selections.{active_of}
use Rattle.bg_history.specs.Marks.{MarkKind, Left, Superseded, Aborted, Cleared, kind_of}
use Rattle.bg_history.specs.declared.mark.Cause.{Cause}
use Rattle.bg_history.specs.declared.mark.Cause.TheVariants as cause
use Rattle.bg_history.specs.Tables.{has_left, Stamp, stamp_at, others, stamped, touched, stamp_all, stamps_of}
use Rattle.bg_scaledown.proofs.Filters.{filter-swap, filter-twice}

-- the stamp is of a revision that left
abbrev pub stamp_has_left : Stamp → Bool
stamp_has_left stamp = has_left stamp.mark.cause

-- each stamp of a revision that left was made before the past had that many entries
abbrev pub LeftBefore : ℕ → List Stamp → Type 0
LeftBefore position [] = Unit {0}
LeftBefore position (stamp ∷ stamps) = (stamp_has_left stamp ≡ true → stamp.position < position) × LeftBefore position stamps

-- of the stamps of revisions that left, the later ones are in front
abbrev pub Ordered : List Stamp → Type 0
Ordered [] = Unit {0}
Ordered (stamp ∷ stamps) = (stamp_has_left stamp ≡ true → LeftBefore stamp.position stamps) × Ordered stamps

-- a revision that left before a past had few entries left before it had more
left_before-more : (low high : ℕ) (stamps : List Stamp) → low ≤ high → LeftBefore low stamps → LeftBefore high stamps
left_before-more low high [] le h = tt
left_before-more low high (stamp ∷ stamps) le h = ((λ left. let lt : stamp.position < low = h.0 left in omega arith), left_before-more low high stamps le h.1)

-- one more stamp, if a test holds
left_before-cond : (b : Bool) (low : ℕ) (stamp : Stamp) (stamps : List Stamp) → (stamp_has_left stamp ≡ true → stamp.position < low) → LeftBefore low stamps → LeftBefore low (cond b (stamp ∷ stamps) stamps)
left_before-cond true low stamp stamps here h = (here, h)
left_before-cond false low stamp stamps here h = h

-- the same holds after stamps are dropped
left_before-others : (low q : ℕ) (stamps : List Stamp) → LeftBefore low stamps → LeftBefore low (others q stamps)
left_before-others low q [] h = tt
left_before-others low q (stamp ∷ stamps) h = left_before-cond (not (stamp.mark.revision == q)) low stamp (others q stamps) h.0 (left_before-others low q stamps h.1)

-- the order is the same after stamps are dropped
ordered-cond : (b : Bool) (stamp : Stamp) (stamps : List Stamp) → (stamp_has_left stamp ≡ true → LeftBefore stamp.position stamps) → Ordered stamps → Ordered (cond b (stamp ∷ stamps) stamps)
ordered-cond true stamp stamps here h = (here, h)
ordered-cond false stamp stamps here h = h

ordered-others : (q : ℕ) (stamps : List Stamp) → Ordered stamps → Ordered (others q stamps)
ordered-others q [] h = tt
ordered-others q (stamp ∷ stamps) h =
    ordered-cond (not (stamp.mark.revision == q)) stamp (others q stamps) (λ left. left_before-others stamp.position q stamps (h.0 left)) (ordered-others q stamps h.1)

-- dropping two revisions in either order, or one of them twice, gives the same
others-swap : (a q : ℕ) (stamps : List Stamp) → others a (others q stamps) ≡ others q (others a stamps)
others-swap a q stamps = filter-swap (λ stamp. not (stamp.mark.revision == a)) (λ stamp. not (stamp.mark.revision == q)) stamps

others-twice : (a : ℕ) (stamps : List Stamp) → others a (others a stamps) ≡ others a stamps
others-twice a stamps = filter-twice (λ stamp. not (stamp.mark.revision == a)) stamps

-- what is kept while an entry stamps one revision after another: n entries stood before it and `a` was active,
-- so that the one stamp that leaves now is that of `a`
record Within (n a : ℕ) (stamps : List Stamp) : Type 0 where
  all : LeftBefore (suc n) stamps
  but : LeftBefore n (others a stamps)
  ordered : Ordered stamps

-- dropping a stamp keeps this
within-others : (n a q : ℕ) (stamps : List Stamp) → Within n a stamps → Within n a (others q stamps)
within-others n a q stamps h = record {
  all = left_before-others (suc n) q stamps h.all;
  but = rw (others-swap a q stamps) (left_before-others n q (others a stamps) h.but);
  ordered = ordered-others q stamps h.ordered;
}

-- an entry makes only the active revision leave
left_is_active : (s : Strategy) (q : ℕ) (e : Entry) (before : List Entry) → kind_of s q e before ≡ Some Left → active_of before ≡ q
left_is_active s q e before h = grind (arith, nat_tests)

-- a stamp of the revision is dropped with its other stamps
others-drops : (a : ℕ) (stamp : Stamp) (stamps : List Stamp) → stamp.mark.revision ≡ a → others a (stamp ∷ stamps) ≡ others a stamps
others-drops a stamp stamps is = grind (arith, nat_tests)

-- the case in which the active revision leaves
within-left : (n a at : ℕ) (stamps : List Stamp) → Within n a stamps → Within n a (stamp_at a cause.Left at n ∷ others a stamps)
within-left n a at stamps h = record {
  all = ((λ _. omega arith), left_before-others (suc n) a stamps h.all);
  but = rw (others-drops a (stamp_at a cause.Left at n) (others a stamps) refl, others-twice a stamps) h.but;
  ordered = ((λ _. h.but), ordered-others a stamps h.ordered);
}

-- the case in which a revision gets a mark of another cause
within-stays : (n a q at : ℕ) (c : Cause) (stamps : List Stamp) → has_left c ≡ false → Within n a stamps → Within n a (stamp_at q c at n ∷ others q stamps)
within-stays n a q at c stamps stays h =
    let stamp : Stamp = stamp_at q c at n in
    let rest : Within n a (others q stamps) = within-others n a q stamps h in
    record {
      all = ((λ left. absurd (cc)), rest.all);
      but = left_before-cond (not (q == a)) n stamp (others a (others q stamps)) (λ left. absurd (cc)) rest.but;
      ordered = ((λ left. absurd (cc)), rest.ordered);
    }

-- the same after an entry's mark for one revision, and for several
within-stamped : (s : Strategy) (q : ℕ) (e : Entry) (before : List Entry) (k : Option MarkKind) (at : ℕ) (stamps : List Stamp) → kind_of s q e before ≡ k
    → Within (length before) (active_of before) stamps → Within (length before) (active_of before) (stamped s k q at (length before) stamps)
within-stamped s q e before None at stamps is h = h
within-stamped s q e before (Some Left) at stamps is h = rw (← left_is_active s q e before is) (within-left (length before) (active_of before) (at + s.delay) stamps h)
within-stamped s q e before (Some Superseded) at stamps is h = within-stays (length before) (active_of before) q at cause.Superseded stamps refl h
within-stamped s q e before (Some Aborted) at stamps is h = within-stays (length before) (active_of before) q (at + s.abort_delay) cause.Aborted stamps refl h
within-stamped s q e before (Some Cleared) at stamps is h = within-others (length before) (active_of before) q stamps h

within-stamp_all : (s : Strategy) (e : Entry) (before : List Entry) (qs : List ℕ) (stamps : List Stamp)
    → Within (length before) (active_of before) stamps → Within (length before) (active_of before) (stamp_all s e before qs stamps)
within-stamp_all s e before [] stamps h = h
within-stamp_all s e before (q ∷ qs) stamps h =
    within-stamped s q e before (kind_of s q e before) (moment (e ∷ before)) (stamp_all s e before qs stamps) refl (within-stamp_all s e before qs stamps h)

-- in the stamps of a past, those that left later are in front
pub stamps-ordered : (s : Strategy) (past : List Entry) → LeftBefore (length past) (stamps_of s past) × Ordered (stamps_of s past)
stamps-ordered s [] = (tt, tt)
stamps-ordered s (e ∷ before) =
    let h : LeftBefore (length before) (stamps_of s before) × Ordered (stamps_of s before) = stamps-ordered s before in
    let w : Within (length before) (active_of before) (stamps_of s (e ∷ before)) = within-stamp_all s e before (touched e before) (stamps_of s before) (record {
      all = left_before-more (length before) (suc (length before)) (stamps_of s before) (omega arith) h.0;
      but = left_before-others (length before) (active_of before) (stamps_of s before) h.0;
      ordered = h.1;
    }) in
    (w.all, w.ordered)
