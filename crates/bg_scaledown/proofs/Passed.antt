-- The revisions whose deadlines have passed or that left too long ago, by their marks in both orders.
use Rattle.std.proofs.Common.{◌≡◌, ◌+◌, ℕ, zero, suc, Bool, true, false, not, cond, ◌==◌, ◌&&◌, ◌||◌, nat_le, List, [], ◌∷◌, ◌++◌, take, drop, map, filter, Option, Some, None, IfSome, IfNone, refl, arith, ap, sym, ◌∙◌, inl, inr}
use Rattle.std.specs.Option.{unwrap_or}
use Rattle.std.specs.List.{list_any, prefix_len}
use Rattle.std.proofs.Math.Seq.{drop-nil}
use Rattle.std.proofs.lemmas.Bool.Decides.{nat_tests, eqb_tells}
use Rattle.std.proofs.lemmas.List.Folds.{list_any-append}
use Rattle.bg_history.specs.Deadlines.{reaches_limit}
use Rattle.bg_revisions.specs.declared.revision.Selectors.{Selectors}
use Rattle.bg_history.specs.declared.mark.RevisionMark.{RevisionMark}
use Rattle.bg_history.specs.Tables.{Table, has_left}
use Rattle.bg_scaledown.specs.Due.{mark_of, exempts, one_if, rank_in, rank_among, found_is_due}
use Rattle.bg_scaledown.specs.Sorted.{sorted, OncePerRevision}
use Rattle.bg_scaledown.proofs.Counts.{member}
use Rattle.bg_scaledown.proofs.Least.{is_candidate}
use Rattle.bg_scaledown.proofs.Sorting.{has_passed, ordered-sorted, passed-front, any-sorted}

-- the mark belongs to that revision
abbrev pub is_of : ℕ → RevisionMark → Bool
is_of q m = m.revision == q

-- there is a mark, and it passes the test
abbrev pub found_passes : (RevisionMark → Bool) → Option RevisionMark → Bool
found_passes test None = false
found_passes test (Some m) = test m

-- the revision of the mark left and is counted
abbrev pub leaves : (ℕ → Bool) → RevisionMark → Bool
leaves counted m = has_left m.cause && counted m.revision

-- the revision numbers of marks
abbrev pub numbers : List RevisionMark → List ℕ
numbers ms = map (λ m. m.revision) ms

member-numbers : (q : ℕ) (ms : List RevisionMark) → member q (numbers ms) ≡ list_any (is_of q) ms
member-numbers q [] = refl
member-numbers q (m ∷ ms) = ap (λ b. is_of q m || b) (member-numbers q ms)

-- the numbers that pass a test
member-filter : (test : ℕ → Bool) (q : ℕ) (xs : List ℕ) → member q (filter test xs) ≡ (test q && member q xs)
member-filter test q [] = grind (arith)
member-filter test q (x ∷ xs) = grind (arith, nat_tests, member-filter test q xs)

-- a revision without a mark has none in a part of the marks
any-none : (q : ℕ) (ms : List RevisionMark) → mark_of q ms ≡ None → list_any (is_of q) ms ≡ false
any-none q [] none = refl
any-none q (m ∷ ms) none = grind (arith, nat_tests, any-none q ms)

any-filter_none : (q : ℕ) (test : RevisionMark → Bool) (ms : List RevisionMark) → list_any (is_of q) ms ≡ false → list_any (is_of q) (filter test ms) ≡ false
any-filter_none q test [] none = refl
any-filter_none q test (m ∷ ms) none = grind (arith, nat_tests, any-filter_none q test ms)

any-drop_none : (q n : ℕ) (ms : List RevisionMark) → list_any (is_of q) ms ≡ false → list_any (is_of q) (drop n ms) ≡ false
any-drop_none q n [] none = rw (drop-nil {A = RevisionMark} n) refl
any-drop_none q zero (m ∷ ms) none = none
any-drop_none q (suc n) (m ∷ ms) none = any-drop_none q n ms (grind (arith, nat_tests))

absent : (q n : ℕ) (test : RevisionMark → Bool) (ms : List RevisionMark) → mark_of q ms ≡ None → list_any (is_of q) (drop n (filter test ms)) ≡ false
absent q n test ms none = any-drop_none q n (filter test ms) (any-filter_none q test ms (any-none q ms none))

any-filter-any : (q : ℕ) (test : RevisionMark → Bool) (ms : List RevisionMark) → list_any (is_of q) (filter test ms) ≡ list_any (λ m. test m && is_of q m) ms
any-filter-any q test [] = refl
any-filter-any q test (m ∷ ms) = grind (arith, any-filter-any q test ms)

-- if each revision has at most one mark, a mark is among those that pass if it passes
any-filter : (q : ℕ) (test : RevisionMark → Bool) (ms : List RevisionMark) → OncePerRevision ms → list_any (is_of q) (filter test ms) ≡ found_passes test (mark_of q ms)
any-filter q test [] once = refl
any-filter q test (m ∷ ms) once = elim (eqb_tells m.revision q) [
  | inl h ↦
      let none : list_any (is_of q) (filter test ms) ≡ false = absent q 0 test ms (rw (← h.1) once.0) in
      grind (arith, nat_tests)
  | inr h ↦ grind (arith, nat_tests, any-filter q test ms once.1)
]

-- the revision of the first mark
over-here : (counted : ℕ → Bool) (q n : ℕ) (m : RevisionMark) (ms : List RevisionMark) (b : Bool) → OncePerRevision (m ∷ ms) → (m.revision == q) ≡ true → m.revision ≡ q → leaves counted m ≡ b
    → list_any (is_of q) (drop n (cond b (m ∷ filter (leaves counted) ms) (filter (leaves counted) ms))) ≡ (b && nat_le n 0)
over-here counted q zero m ms true once same is left = rw same refl
over-here counted q (suc n) m ms true once same is left =
    let none : nat_le (suc n) 0 ≡ false = grind (arith, nat_tests) in
    absent q n (leaves counted) ms (rw (← is) once.0) ∙ sym none
over-here counted q n m ms false once same is left = absent q n (leaves counted) ms (rw (← is) once.0)

-- a revision other than that of the first mark
over-there : (counted : ℕ → Bool) (q n : ℕ) (m : RevisionMark) (ms : List RevisionMark) (b : Bool) → (m.revision == q) ≡ false
    → ((k : ℕ) → list_any (is_of q) (drop k (filter (leaves counted) ms)) ≡ (found_passes (leaves counted) (mark_of q ms) && nat_le k (rank_in counted q ms)))
    → list_any (is_of q) (drop n (cond b (m ∷ filter (leaves counted) ms) (filter (leaves counted) ms))) ≡ (found_passes (leaves counted) (mark_of q ms) && nat_le n (one_if b + rank_in counted q ms))
over-there counted q zero m ms true other below = rw (other, below 0) (grind (arith, nat_tests))
over-there counted q (suc n) m ms true other below = rw (below n) (grind (arith, nat_tests))
over-there counted q n m ms false other below = rw (below n) (grind (arith, nat_tests))

-- if each revision has at most one mark: a revision is after the first n that left if at least n left after it
any-over : (counted : ℕ → Bool) (q n : ℕ) (ms : List RevisionMark) → OncePerRevision ms
    → list_any (is_of q) (drop n (filter (leaves counted) ms)) ≡ (found_passes (leaves counted) (mark_of q ms) && nat_le n (rank_in counted q ms))
any-over counted q n [] once = rw (drop-nil {A = RevisionMark} n) refl
any-over counted q n (m ∷ ms) once = elim (eqb_tells m.revision q) [
  | inl h ↦ rw h.0 (over-here counted q n m ms (leaves counted m) once h.0 h.1 refl)
  | inr h ↦ rw h.0 (over-there counted q n m ms (leaves counted m) h.0 (λ k. any-over counted q k ms once.1))
]

-- the mark that is found belongs to the revision
found-of : (q : ℕ) (ms : List RevisionMark) (m : RevisionMark) → mark_of q ms ≡ Some m → m.revision ≡ q
found-of q [] m found = cc
found-of q (x ∷ ms) m found = grind (arith, nat_tests, found-of q ms m)

-- the marks to which the limit applies: none without a limit
abbrev pub limited : Option ℕ → List RevisionMark → List RevisionMark
limited None ms = []
limited (Some limit) ms = ms

pub limited-is : (limit : Option ℕ) (ms xs : List RevisionMark) → IfSome limit (λ _. xs ≡ ms) → IfNone limit (xs ≡ []) → xs ≡ limited limit ms
limited-is None ms xs some none = none
limited-is (Some limit) ms xs some none = some

-- a revision is past the limit if at least that many left after it; without a limit none is
any-limited : (counted : ℕ → Bool) (limit : Option ℕ) (q : ℕ) (ms : List RevisionMark) → OncePerRevision ms
    → list_any (is_of q) (drop (unwrap_or limit 0) (filter (leaves counted) (limited limit ms))) ≡ (found_passes (leaves counted) (mark_of q ms) && reaches_limit limit (rank_in counted q ms))
any-limited counted None q ms once = grind (arith)
any-limited counted (Some n) q ms once = any-over counted q n ms once

-- the revisions past their deadlines by the one order, and those past the limit by the other, that
-- aren't exempt and pass the test
abbrev pub candidates : Table → ℕ → Selectors → (ℕ → Bool) → List ℕ
candidates t now x p =
    filter (λ q. not (exempts x q) && p q)
    (numbers (take (prefix_len (has_passed now) (sorted t.marks)) (sorted t.marks))
    ++ numbers (drop (unwrap_or t.limit 0) (filter (leaves (λ q. not (exempts x q))) (limited t.limit t.marks))))

-- the same, by its mark
candidate-by_mark : (t : Table) (now : ℕ) (x : Selectors) (p : ℕ → Bool) (q : ℕ) (o : Option RevisionMark) → mark_of q t.marks ≡ o
    → ((not (exempts x q) && p q) && (found_passes (has_passed now) o || (found_passes (leaves (λ q. not (exempts x q))) o && reaches_limit t.limit (rank_among x q t.marks))))
    ≡ ((not (exempts x q) && found_is_due t now (rank_among x q t.marks) o) && p q)
candidate-by_mark t now x p q None found = grind (arith)
candidate-by_mark t now x p q (Some m) found =
    rw (found-of q t.marks m found)
    (tests (exempts x q) (p q) (nat_le m.deadline now) (has_left m.cause) (reaches_limit t.limit (rank_among x q t.marks))) where
      tests : (e p d l o : Bool) → ((not e && p) && (d || ((l && not e) && o))) ≡ ((not e && (d || (l && o))) && p)
      tests true p d l o = refl
      tests false true true l o = refl
      tests false true false true true = refl
      tests false true false true false = refl
      tests false true false false o = refl
      tests false false true l o = refl
      tests false false false true true = refl
      tests false false false true false = refl
      tests false false false false o = refl

-- these are the revisions that are due and pass the test
pub member-candidates : (t : Table) (now : ℕ) (x : Selectors) (p : ℕ → Bool) (q : ℕ) → OncePerRevision t.marks
    → member q (candidates t now x p) ≡ is_candidate t now x p q
member-candidates t now x p q once =
    let passed = take (prefix_len (has_passed now) (sorted t.marks)) (sorted t.marks) in
    let over = drop (unwrap_or t.limit 0) (filter (leaves (λ q. not (exempts x q))) (limited t.limit t.marks)) in
    let in_passed : list_any (is_of q) passed ≡ found_passes (has_passed now) (mark_of q t.marks) =
    ap (list_any (is_of q)) (passed-front now (sorted t.marks) (ordered-sorted t.marks))
    ∙ any-filter-any q (has_passed now) (sorted t.marks)
    ∙ any-sorted (λ m. has_passed now m && is_of q m) t.marks
    ∙ sym (any-filter-any q (has_passed now) t.marks)
    ∙ any-filter q (has_passed now) t.marks once in
    let in_over : list_any (is_of q) over ≡ (found_passes (leaves (λ q. not (exempts x q))) (mark_of q t.marks) && reaches_limit t.limit (rank_among x q t.marks)) =
    any-limited (λ q. not (exempts x q)) t.limit q t.marks once in
    member-filter (λ q. not (exempts x q) && p q) q (numbers passed ++ numbers over)
    ∙ ap (λ b. (not (exempts x q) && p q) && b)
    (list_any-append (λ r. r == q) (numbers passed) (numbers over)
    ∙ rw (member-numbers q passed, member-numbers q over, in_passed, in_over) refl)
    ∙ candidate-by_mark t now x p q (mark_of q t.marks) refl
