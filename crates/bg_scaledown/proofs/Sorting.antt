-- Sorting marks by their deadlines.
use Rattle.std.proofs.Common.{◌≡◌, ◌<◌, ◌+◌, ℕ, Bool, true, false, not, cond, ◌==◌, ◌||◌, nat_le, List, [], ◌∷◌, length, take, filter, None, refl, arith, ap, sym, ◌∙◌}
use Rattle.std.specs.List.{list_any, prefix_len}
use Rattle.std.proofs.lemmas.Bool.Decides.{nat_tests}
use Rattle.std.proofs.lemmas.List.Sums.{take_while-cons}
use Rattle.bg_history.specs.declared.mark.RevisionMark.{RevisionMark}
use Rattle.bg_scaledown.specs.Due.{marks_without, mark_of}
use Rattle.bg_scaledown.specs.Sorted.{comes_before, inserted, sorted, OncePerRevision, InBothOrders}
use Rattle.bg_scaledown.proofs.Room.{length-marks_without}

-- the mark comes before each of the others
abbrev pub BeforeAll : RevisionMark → List RevisionMark → Type 0
BeforeAll m [] = Unit {0}
BeforeAll m (x ∷ xs) = (comes_before m x ≡ true) × BeforeAll m xs

abbrev pub Ordered : List RevisionMark → Type 0
Ordered [] = Unit {0}
Ordered (x ∷ xs) = BeforeAll x xs × Ordered xs

-- the order is total and transitive
total : (m x : RevisionMark) → comes_before m x ≡ false → comes_before x m ≡ true
total m x h = grind (arith, nat_tests)

transitive : (m x y : RevisionMark) → comes_before m x ≡ true → comes_before x y ≡ true → comes_before m y ≡ true
transitive m x y h k = grind (arith, nat_tests)

before-more : (m x : RevisionMark) (xs : List RevisionMark) → comes_before m x ≡ true → BeforeAll x xs → BeforeAll m xs
before-more m x [] h all = tt
before-more m x (y ∷ ys) h all = (transitive m x y h all.0, before-more m x ys h all.1)

-- inserting a mark keeps the order
before-inserted : (x m : RevisionMark) (xs : List RevisionMark) → comes_before x m ≡ true → BeforeAll x xs → BeforeAll x (inserted m xs)
before-inserted x m [] h all = (h, tt)
before-inserted x m (y ∷ ys) h all = go (comes_before m y) (before-inserted x m ys h all.1) where
  go : (b : Bool) → BeforeAll x (inserted m ys) → BeforeAll x (cond b (m ∷ y ∷ ys) (y ∷ inserted m ys))
  go true rest = (h, all)
  go false rest = (all.0, rest)

ordered-inserted : (m : RevisionMark) (xs : List RevisionMark) → Ordered xs → Ordered (inserted m xs)
ordered-inserted m [] h = (tt, tt)
ordered-inserted m (x ∷ xs) h = go (comes_before m x) refl (ordered-inserted m xs h.1) where
  go : (b : Bool) → comes_before m x ≡ b → Ordered (inserted m xs) → Ordered (cond b (m ∷ x ∷ xs) (x ∷ inserted m xs))
  go true is rest = ((is, before-more m x xs is h.0), h)
  go false is rest = (before-inserted x m xs (total m x is) h.0, rest)

pub ordered-sorted : (ms : List RevisionMark) → Ordered (sorted ms)
ordered-sorted [] = tt
ordered-sorted (m ∷ ms) = ordered-inserted m (sorted ms) (ordered-sorted ms)

-- a mark that comes before all others is inserted in front
inserted-front : (m : RevisionMark) (xs : List RevisionMark) → BeforeAll m xs → inserted m xs ≡ m ∷ xs
inserted-front m [] all = refl
inserted-front m (x ∷ xs) all = rw all.0 refl

-- marks that are dropped don't matter
before-without : (m : RevisionMark) (r : ℕ) (xs : List RevisionMark) → BeforeAll m xs → BeforeAll m (marks_without r xs)
before-without m r [] all = tt
before-without m r (x ∷ xs) all = go (not (x.revision == r)) (before-without m r xs all.1) where
  go : (b : Bool) → BeforeAll m (marks_without r xs) → BeforeAll m (cond b (x ∷ marks_without r xs) (marks_without r xs))
  go true rest = (all.0, rest)
  go false rest = rest

-- a mark of another revision can be inserted before or after the drop
without-inserted : (r : ℕ) (m : RevisionMark) (xs : List RevisionMark) → (m.revision == r) ≡ false → Ordered xs → marks_without r (inserted m xs) ≡ inserted m (marks_without r xs)
without-inserted r m [] other h = rw other refl
without-inserted r m (x ∷ xs) other h = go (comes_before m x) (x.revision == r) refl refl (without-inserted r m xs other h.1) where
  go : (b c : Bool) → comes_before m x ≡ b → (x.revision == r) ≡ c → marks_without r (inserted m xs) ≡ inserted m (marks_without r xs)
      → marks_without r (cond b (m ∷ x ∷ xs) (x ∷ inserted m xs)) ≡ inserted m (cond (not c) (x ∷ marks_without r xs) (marks_without r xs))
  go true true is same rest = rw (other, same) (sym (inserted-front m (marks_without r xs) (before-without m r xs (before-more m x xs is h.0))))
  go true false is same rest = rw (other, same, is) refl
  go false true is same rest = rw same rest
  go false false is same rest = rw (same, is) (ap (λ ys. x ∷ ys) rest)

-- a mark of that revision is dropped
without-inserted_same : (r : ℕ) (m : RevisionMark) (xs : List RevisionMark) → (m.revision == r) ≡ true → marks_without r (inserted m xs) ≡ marks_without r xs
without-inserted_same r m [] same = rw same refl
without-inserted_same r m (x ∷ xs) same = go (comes_before m x) (without-inserted_same r m xs same) where
  go : (b : Bool) → marks_without r (inserted m xs) ≡ marks_without r xs
      → marks_without r (cond b (m ∷ x ∷ xs) (x ∷ inserted m xs)) ≡ marks_without r (x ∷ xs)
  go true rest = rw same refl
  go false rest = ap (λ ys. cond (not (x.revision == r)) (x ∷ ys) ys) rest

-- so sorting before or after the drop gives the same
sorted-without : (r : ℕ) (ms : List RevisionMark) → sorted (marks_without r ms) ≡ marks_without r (sorted ms)
sorted-without r [] = refl
sorted-without r (m ∷ ms) = go (m.revision == r) refl (sorted-without r ms) where
  go : (b : Bool) → (m.revision == r) ≡ b → sorted (marks_without r ms) ≡ marks_without r (sorted ms)
      → sorted (cond (not b) (m ∷ marks_without r ms) (marks_without r ms)) ≡ marks_without r (inserted m (sorted ms))
  go true is rest = rest ∙ sym (without-inserted_same r m (sorted ms) is)
  go false is rest = ap (inserted m) rest ∙ sym (without-inserted r m (sorted ms) is (ordered-sorted ms))

-- the number of marks is the same
length-inserted : (m : RevisionMark) (xs : List RevisionMark) → length (inserted m xs) ≡ 1 + length xs
length-inserted m [] = omega arith
length-inserted m (x ∷ xs) = go (comes_before m x) (length-inserted m xs) where
  go : (b : Bool) → length (inserted m xs) ≡ 1 + length xs → length (cond b (m ∷ x ∷ xs) (x ∷ inserted m xs)) ≡ 1 + length (x ∷ xs)
  go true rest = omega arith
  go false rest = omega (arith, rest)

length-sorted : (ms : List RevisionMark) → length (sorted ms) ≡ length ms
length-sorted [] = refl
length-sorted (m ∷ ms) = omega (arith, length-inserted m (sorted ms), length-sorted ms)

-- the marks are the same
any-inserted : (t : RevisionMark → Bool) (m : RevisionMark) (xs : List RevisionMark) → list_any t (inserted m xs) ≡ (t m || list_any t xs)
any-inserted t m [] = refl
any-inserted t m (x ∷ xs) = go (comes_before m x) (any-inserted t m xs) where
  go : (b : Bool) → list_any t (inserted m xs) ≡ (t m || list_any t xs) → list_any t (cond b (m ∷ x ∷ xs) (x ∷ inserted m xs)) ≡ (t m || (t x || list_any t xs))
  go true rest = refl
  go false rest = ap (λ b. t x || b) rest ∙ swap (t x) (t m) (list_any t xs) where
    swap : (a b c : Bool) → a || (b || c) ≡ b || (a || c)
    swap true true c = refl
    swap true false c = refl
    swap false b c = refl

pub any-sorted : (t : RevisionMark → Bool) (ms : List RevisionMark) → list_any t (sorted ms) ≡ list_any t ms
any-sorted t [] = refl
any-sorted t (m ∷ ms) = any-inserted t m (sorted ms) ∙ ap (λ b. t m || b) (any-sorted t ms)

-- the marks whose deadlines have passed are in front
abbrev pub has_passed : ℕ → RevisionMark → Bool
has_passed now m = nat_le m.deadline now

none-later : (now : ℕ) (x : RevisionMark) (xs : List RevisionMark) → has_passed now x ≡ false → BeforeAll x xs → filter (has_passed now) xs ≡ []
none-later now x [] h all = refl
none-later now x (y ∷ ys) h all =
    let later : has_passed now y ≡ false = grind (arith, nat_tests, all.0) in
    rw later (none-later now x ys h all.1)

pub passed-front : (now : ℕ) (xs : List RevisionMark) → Ordered xs → take (prefix_len (has_passed now) xs) xs ≡ filter (has_passed now) xs
passed-front now [] h = refl
passed-front now (x ∷ xs) h = go (has_passed now x) refl (passed-front now xs h.1) where
  go : (b : Bool) → has_passed now x ≡ b → take (prefix_len (has_passed now) xs) xs ≡ filter (has_passed now) xs
      → take (prefix_len (has_passed now) (x ∷ xs)) (x ∷ xs) ≡ filter (has_passed now) (x ∷ xs)
  go true is rest = take_while-cons (has_passed now) x xs ∙ rw is (ap (λ ys. x ∷ ys) rest)
  go false is rest = take_while-cons (has_passed now) x xs ∙ rw is (sym (none-later now x xs is h.0))

-- a revision whose marks are dropped has none
mark_of-without_same : (r : ℕ) (ms : List RevisionMark) → mark_of r (marks_without r ms) ≡ None
mark_of-without_same r [] = refl
mark_of-without_same r (m ∷ ms) = grind (arith, nat_tests, mark_of-without_same r ms)

mark_of-still_none : (q r : ℕ) (ms : List RevisionMark) → mark_of q ms ≡ None → mark_of q (marks_without r ms) ≡ None
mark_of-still_none q r [] none = refl
mark_of-still_none q r (m ∷ ms) none = grind (arith, nat_tests, mark_of-still_none q r ms)

-- so no revision gets two marks
once-without : (r : ℕ) (ms : List RevisionMark) → OncePerRevision ms → OncePerRevision (marks_without r ms)
once-without r [] h = tt
once-without r (m ∷ ms) h = go (not (m.revision == r)) (once-without r ms h.1) where
  go : (b : Bool) → OncePerRevision (marks_without r ms) → OncePerRevision (cond b (m ∷ marks_without r ms) (marks_without r ms))
  go true rest = (mark_of-still_none m.revision r ms h.0, rest)
  go false rest = rest

once-put : (m : RevisionMark) (ms : List RevisionMark) → OncePerRevision ms → OncePerRevision (m ∷ marks_without m.revision ms)
once-put m ms h = (mark_of-without_same m.revision ms, once-without m.revision ms h)

-- inserting or dropping a mark keeps the invariant of the two orders
pub orders-put : (m : RevisionMark) (newest_first by_deadline : List RevisionMark) → InBothOrders newest_first by_deadline → length (marks_without m.revision newest_first) < 64
    → InBothOrders (m ∷ marks_without m.revision newest_first) (inserted m (marks_without m.revision by_deadline))
orders-put m newest_first by_deadline h room = record {
  few = omega arith;
  sorted_is = rw (h.sorted_is, sorted-without m.revision newest_first) refl;
  once = once-put m newest_first h.once;
}

pub orders-dropped : (r : ℕ) (newest_first by_deadline : List RevisionMark) → InBothOrders newest_first by_deadline → InBothOrders (marks_without r newest_first) (marks_without r by_deadline)
orders-dropped r newest_first by_deadline h = record {
  few = omega (arith, length-marks_without r newest_first, h.few);
  sorted_is = rw (h.sorted_is, sorted-without r newest_first) refl;
  once = once-without r newest_first h.once;
}

-- there is as much room in one order as in the other
pub room-sorted : (r : ℕ) (newest_first by_deadline : List RevisionMark) → InBothOrders newest_first by_deadline → length (marks_without r newest_first) < 64 → length (marks_without r by_deadline) < 64
room-sorted r newest_first by_deadline h room =
    rw (h.sorted_is, ← sorted-without r newest_first, length-sorted (marks_without r newest_first)) room
