-- The rank of a revision in the table of a past is its rank by that past.
use Rattle.std.proofs.Common.{◌≡◌, ◌+◌, ℕ, Bool, true, false, not, cond, ◌&&◌, nat_lt, List, [], ◌∷◌, count_by, Option, Some, None, is_some, refl, arith, ◌∙◌, ap, sym}
use Rattle.std.proofs.lemmas.Bool.Decides.{nat_tests}
use Rattle.std.proofs.lemmas.List.Sums.{sum_by-cons}
use Rattle.bg_history.specs.declared.entry.Entry.{Entry}
use Rattle.bg_strategy.specs.declared.strategy.Strategy.{Strategy}
use Rattle.bg_history.specs.Selections.{is_selected}
use Rattle.bg_history.specs.Sizes.{existing, Ascends}
use Rattle.bg_history.specs.Marks.{MarkKind, Left, Superseded, Aborted, Cleared, Mark, mark}
use Rattle.bg_history.specs.Deadlines.{deadline, is_spare, left_later, rank_after}
use Rattle.bg_scaledown.specs.Due.{one_if, rank_in}
use Rattle.bg_history.specs.Tables.{Stamp, stamp_of, stamps_of, marks_of, DeadlinesInvariant}
use Rattle.bg_scaledown.proofs.Counts.{count, member, Distinct, count-same, ascends-distinct}
use Rattle.bg_scaledown.proofs.Lookups.{live, live-deadline, stamp_of-past}
use Rattle.bg_scaledown.proofs.Orders.{stamp_has_left, stamps-ordered}
use Rattle.bg_scaledown.proofs.Once.{revisions, stamps-distinct}
use Rattle.bg_scaledown.proofs.Ranks.{later, rank_in-is_later}

-- the revision of the stamp left after that many entries
abbrev pub stamp_later : ℕ → Option Stamp → Bool
stamp_later position None = false
stamp_later position (Some stamp) = stamp_has_left stamp && nat_lt position stamp.position

-- the revision is counted, and it left after that many entries
abbrev pub by_stamp : (ℕ → Bool) → ℕ → List Stamp → ℕ → Bool
by_stamp counted position stamps q = counted q && stamp_later position (stamp_of q stamps)

-- tests that agree give the same count
count-ext : (p t : ℕ → Bool) (xs : List ℕ) → ((q : ℕ) → p q ≡ t q) → count p xs ≡ count t xs
count-ext p t [] same = refl
count-ext p t (x ∷ xs) same = rw (same x, count-ext p t xs same) refl

-- a stamp of none of the numbers changes no count
count-by_stamp_absent : (counted : ℕ → Bool) (position : ℕ) (stamp : Stamp) (stamps : List Stamp) (xs : List ℕ) → member stamp.mark.revision xs ≡ false
    → count (by_stamp counted position (stamp ∷ stamps)) xs ≡ count (by_stamp counted position stamps) xs
count-by_stamp_absent counted position stamp stamps [] out = refl
count-by_stamp_absent counted position stamp stamps (x ∷ xs) out = grind (arith, nat_tests, count-by_stamp_absent counted position stamp stamps xs)

-- the stamps of revisions that left later are counted by revision
later-is_count : (counted : ℕ → Bool) (position : ℕ) (stamps : List Stamp) → Distinct (revisions stamps) → later counted position stamps ≡ count (by_stamp counted position stamps) (revisions stamps)
later-is_count counted position [] distinct = refl
later-is_count counted position (stamp ∷ stamps) distinct =
    grind (arith, nat_tests, later-is_count counted position stamps distinct.1, count-by_stamp_absent counted position stamp stamps (revisions stamps) distinct.0)

-- the revision of a stamp left later if its mark did
stamp_later-live : (s : Strategy) (position q : ℕ) (m : Option Mark) → stamp_later position (live s q m) ≡ left_later position m
stamp_later-live s position q None = refl
stamp_later-live s position q (Some m) = stamp_later-kind s position q m.kind m.moment m.position where
  stamp_later-kind : (s : Strategy) (position q : ℕ) (k : MarkKind) (at n : ℕ) → stamp_later position (live s q (Some (record { kind = k; moment = at; position = n }))) ≡ left_later position (Some (record { kind = k; moment = at; position = n }))
  stamp_later-kind s position q Left at n = refl
  stamp_later-kind s position q Superseded at n = refl
  stamp_later-kind s position q Aborted at n = refl
  stamp_later-kind s position q Cleared at n = refl

-- a revision that is counted has a stamp
by_stamp-member : (counted : ℕ → Bool) (position q : ℕ) (stamps : List Stamp) → by_stamp counted position stamps q ≡ true → member q (revisions stamps) ≡ true
by_stamp-member counted position q [] h = grind (arith, nat_tests)
by_stamp-member counted position q (stamp ∷ stamps) h = grind (arith, nat_tests, by_stamp-member counted position q stamps)

-- tests that agree on the revisions of the stamps give the same count
later-ext : (p t : ℕ → Bool) (position : ℕ) (stamps : List Stamp) → ((q : ℕ) → member q (revisions stamps) ≡ true → p q ≡ t q) → later p position stamps ≡ later t position stamps
later-ext p t position [] same = refl
later-ext p t position (stamp ∷ stamps) same =
    let here : p stamp.mark.revision ≡ t stamp.mark.revision = same stamp.mark.revision (grind (arith, nat_tests)) in
    let rest : later p position stamps ≡ later t position stamps = later-ext p t position stamps (λ q h. same q (grind (arith, nat_tests))) in
    rw (here, rest) refl

-- the count by a test of std is the same number
count_by-is_count : (p : ℕ → Bool) (xs : List ℕ) → count_by p xs ≡ count p xs
count_by-is_count p [] = refl
count_by-is_count p (x ∷ xs) = sum_by-cons (λ y. cond (p y) 1 0) x xs ∙ ap (λ n. one_if (p x) + n) (count_by-is_count p xs)

-- a revision with a stamp has a deadline
stamp_of-found : (q : ℕ) (stamps : List Stamp) → member q (revisions stamps) ≡ true → is_some (stamp_of q stamps) ≡ true
stamp_of-found q [] h = cc
stamp_of-found q (stamp ∷ stamps) h = grind (arith, nat_tests, stamp_of-found q stamps)

pub stamped-deadline : (s : Strategy) (q : ℕ) (past : List Entry) → member q (revisions (stamps_of s past)) ≡ true → is_some (deadline s q past) ≡ true
stamped-deadline s q past h = live-deadline s q (mark s q past) ∙ ap is_some (sym (stamp_of-past s q past)) ∙ stamp_of-found q (stamps_of s past) h

-- the rank in the table is the number of spare revisions that left later
pub rank_in-is_rank : (s : Strategy) (r : ℕ) (past : List Entry) (me : Stamp) → DeadlinesInvariant s past → Ascends (existing past) → stamp_of r (stamps_of s past) ≡ Some me → stamp_has_left me ≡ true
    → rank_in (λ q. not (is_selected q past)) r (marks_of (stamps_of s past)) ≡ rank_after s me.position past
rank_in-is_rank s r past me invariant ascends here left =
    let spare : ℕ → Bool = λ q. is_spare s q past in
    let by : ℕ → Bool = by_stamp spare me.position (stamps_of s past) in
    rank_in-is_later (λ q. not (is_selected q past)) r (stamps_of s past) me (stamps-ordered s past).1 here left
    ∙ later-ext (λ q. not (is_selected q past)) spare me.position (stamps_of s past) (λ q h. rw (invariant.scaled q (stamped-deadline s q past h)) refl)
    ∙ later-is_count spare me.position (stamps_of s past) (stamps-distinct s past)
    ∙ count-same by (revisions (stamps_of s past)) (existing past) (stamps-distinct s past) (ascends-distinct (existing past) ascends)
    (λ q h. by_stamp-member spare me.position q (stamps_of s past) h)
    (λ q h. invariant.exist q (stamped-deadline s q past (by_stamp-member spare me.position q (stamps_of s past) h)))
    ∙ count-ext by (λ q. is_spare s q past && left_later me.position (mark s q past)) (existing past)
    (λ q. ap (λ stamp. is_spare s q past && stamp_later me.position stamp) (stamp_of-past s q past) ∙ ap (λ b. is_spare s q past && b) (stamp_later-live s me.position q (mark s q past)))
    ∙ sym (count_by-is_count (λ q. is_spare s q past && left_later me.position (mark s q past)) (existing past))
