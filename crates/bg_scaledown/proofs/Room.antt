-- The number of marks of other revisions.
use Rattle.std.proofs.Common.{◌≡◌, ◌≢◌, ◌<◌, ◌≤◌, ◌+◌, ℕ, Bool, true, false, not, cond, ◌==◌, nat_lt, nat_le, List, [], ◌∷◌, ◌++◌, length, take, drop, get_or, Option, Some, None, is_some, is_none, refl, arith, sym, ap, ◌∙◌, length-append, inl, inr}
use Rattle.std.proofs.lemmas.Bool.Decides.{nat_tests, eqb_tells}
use Rattle.std.proofs.lemmas.List.{take-append-drop}
use Rattle.std.proofs.lemmas.List.Elements.{filter-append, filter_more}
use Rattle.bg_history.specs.declared.mark.RevisionMark.{RevisionMark}
use Rattle.bg_history.specs.declared.mark.Cause.TheVariants.{Aborted}
use Rattle.bg_revisions.specs.declared.revision.Selectors.{Selectors}
use Rattle.bg_scaledown.specs.Due.{marks_without, mark_of, one_if, unmarked, has_room_for}
use Rattle.bg_scaledown.specs.Events.{with_aborted, replaces_newest, goes_back, only_if, marked_by_deploy, marked_by_halt}

-- there are at most as many as marks
pub length-marks_without : (r : ℕ) (ms : List RevisionMark) → length (marks_without r ms) ≤ length ms
length-marks_without r [] = omega arith
length-marks_without r (m ∷ ms) = grind (arith, nat_tests, length-marks_without r ms)

-- there are fewer if the revision has one
marks_without-found : (r : ℕ) (ms : List RevisionMark) → is_some (mark_of r ms) ≡ true → length (marks_without r ms) < length ms
marks_without-found r [] found = cc
marks_without-found r (m ∷ ms) found = grind (arith, nat_tests, length-marks_without r ms, marks_without-found r ms)

-- the place that the revision needs if it has no mark
abbrev pub place : ℕ → List RevisionMark → ℕ
place r ms = one_if (is_none (mark_of r ms))

-- there are as many places as needed
fits : (n : ℕ) → nat_le n 64 ≡ true → n ≤ 64
fits n h = grind (arith, nat_tests)

pub fits-so : (n : ℕ) → n ≤ 64 → nat_le n 64 ≡ true
fits-so n h = grind (arith, nat_tests)

-- the marks of other revisions are fewer, or the same number if this one has none
place-without : (r : ℕ) (ms : List RevisionMark) → 1 + length (marks_without r ms) ≤ place r ms + length ms
place-without r ms = go (mark_of r ms) refl where
  go : (o : Option RevisionMark) → mark_of r ms ≡ o → 1 + length (marks_without r ms) ≤ place r ms + length ms
  go None is = rw is (omega (arith, length-marks_without r ms))
  go (Some m) is = let found : is_some (mark_of r ms) ≡ true = rw is refl in omega (arith, marks_without-found r ms found)

-- so a mark of the revision has room among them
pub marks_without-room : (r : ℕ) (ms : List RevisionMark) → has_room_for (r ∷ []) ms ≡ true → length (marks_without r ms) < 64
marks_without-room r ms room =
    let few : place r ms + 0 + length ms ≤ 64 = fits _ room in
    omega (arith, place-without r ms)

-- a part of the list has at most as many as the list
pub marks_without-take : (r n : ℕ) (ms : List RevisionMark) → length (marks_without r (take n ms)) ≤ length (marks_without r ms)
marks_without-take r n ms =
    let p : RevisionMark → Bool = λ m. not (m.revision == r) in
    let whole : length (marks_without r ms) ≡ length (marks_without r (take n ms)) + length (marks_without r (drop n ms)) =
    ap (λ xs. length (marks_without r xs)) (sym (take-append-drop n ms)) ∙ ap length (filter-append p (take n ms) (drop n ms)) ∙ length-append (marks_without r (take n ms)) (marks_without r (drop n ms)) in
    omega arith

-- there is one fewer before a mark of another revision
pub marks_without-before : (r i : ℕ) (ms : List RevisionMark) (d : RevisionMark) → i < length ms → (get_or ms i d).revision ≢ r → length (marks_without r (take i ms)) < length (marks_without r ms)
marks_without-before r i ms d within other =
    let p : RevisionMark → Bool = λ m. not (m.revision == r) in
    let passes : p (get_or ms i d) ≡ true = grind (arith, nat_tests) in
    let more : marks_without r (take (i + 1) ms) ≡ marks_without r (take i ms) ++ get_or ms i d ∷ [] =
    filter_more p ms i d within ∙ ap (λ b. marks_without r (take i ms) ++ cond b (get_or ms i d ∷ []) []) passes in
    omega (arith, marks_without-take r (i + 1) ms, ap length more, length-append (marks_without r (take i ms)) (get_or ms i d ∷ []))

-- a revision needs at most one place
pub place-most : (r : ℕ) (ms : List RevisionMark) → place r ms ≤ 1
place-most r ms = go (mark_of r ms) where
  go : (o : Option RevisionMark) → one_if (is_none o) ≤ 1
  go None = omega arith
  go (Some m) = omega arith

-- dropping the marks of q keeps the mark of another revision
mark_of-without : (q r : ℕ) (ms : List RevisionMark) → (q == r) ≡ false → mark_of r (marks_without q ms) ≡ mark_of r ms
mark_of-without q r [] other = refl
mark_of-without q r (m ∷ ms) other = grind (arith, nat_tests, mark_of-without q r ms other)

-- dropping marks frees at least as many places as it makes needed
dropped : (q r : ℕ) (ms : List RevisionMark) → place r (marks_without q ms) + length (marks_without q ms) ≤ place r ms + length ms
dropped q r ms = elim (eqb_tells q r) [
  | inl h ↦ rw h.1 (omega (arith, place-without r ms, place-most r (marks_without r ms)))
  | inr h ↦ rw (mark_of-without q r ms h.0) (omega (arith, length-marks_without q ms))
]

-- the same holds for two revisions
dropped-two : (q n a : ℕ) (ms : List RevisionMark) → (n == a) ≡ false
    → place n (marks_without q ms) + place a (marks_without q ms) + length (marks_without q ms) ≤ place n ms + place a ms + length ms
dropped-two q n a ms other = elim (eqb_tells q n) [
  | inl h ↦
      let apart : (q == a) ≡ false = rw h.1 other in
      rw (mark_of-without q a ms apart) (omega (arith, dropped q n ms))
  | inr h ↦ rw (mark_of-without q n ms h.0) (omega (arith, dropped q a ms))
]

-- a mark of n takes the place of n
marked-room : (n a : ℕ) (m : RevisionMark) (ms : List RevisionMark) → m.revision ≡ n → (n == a) ≡ false
    → place a (m ∷ marks_without n ms) + length (m ∷ marks_without n ms) ≤ place n ms + place a ms + length ms
marked-room n a m ms is other =
    let apart : (m.revision == a) ≡ false = rw is other in
    rw (apart, mark_of-without n a ms other) (omega (arith, place-without n ms))

-- there is room for a revision after marks are dropped
pub room-dropped : (r q : ℕ) (ms : List RevisionMark) → has_room_for (r ∷ []) ms ≡ true → has_room_for (r ∷ []) (marks_without q ms) ≡ true
room-dropped r q ms room =
    let few : place r ms + 0 + length ms ≤ 64 = fits _ room in
    fits-so _ (omega (arith, dropped q r ms))

-- there is room for as many revisions as there are places left
unmarked-most : (rs : List ℕ) (ms : List RevisionMark) → unmarked rs ms ≤ length rs
unmarked-most [] ms = omega arith
unmarked-most (r ∷ rest) ms = omega (arith, place-most r ms, unmarked-most rest ms)

pub room-left : (rs : List ℕ) (ms : List RevisionMark) → length rs + length ms ≤ 64 → has_room_for rs ms ≡ true
room-left rs ms few = fits-so _ (omega (arith, unmarked-most rs ms))

-- two revisions, and the room that is left for them
pair-fits : (n a : ℕ) (ms : List RevisionMark) → has_room_for (n ∷ a ∷ []) ms ≡ true → place n ms + (place a ms + 0) + length ms ≤ 64
pair-fits n a ms room = fits _ room

-- the room after marks are dropped
pub pair-dropped : (q n a : ℕ) (ms : List RevisionMark) → (n == a) ≡ false → has_room_for (n ∷ a ∷ []) ms ≡ true → has_room_for (n ∷ a ∷ []) (marks_without q ms) ≡ true
pair-dropped q n a ms other room = fits-so _ (omega (arith, dropped-two q n a ms other, pair-fits n a ms room))

-- the room for one of them
pub pair-first : (n a : ℕ) (ms : List RevisionMark) → has_room_for (n ∷ a ∷ []) ms ≡ true → has_room_for (n ∷ []) ms ≡ true
pair-first n a ms room = fits-so _ (omega (arith, pair-fits n a ms room))

pub pair-second : (n a : ℕ) (ms : List RevisionMark) → has_room_for (n ∷ a ∷ []) ms ≡ true → has_room_for (a ∷ []) ms ≡ true
pair-second n a ms room = fits-so _ (omega (arith, pair-fits n a ms room))

-- the room for the second one after the first one is marked
pub pair-marked : (n a : ℕ) (m : RevisionMark) (ms : List RevisionMark) → m.revision ≡ n → (n == a) ≡ false → has_room_for (n ∷ a ∷ []) ms ≡ true
    → has_room_for (a ∷ []) (m ∷ marks_without n ms) ≡ true
pair-marked n a m ms is other room = fits-so _ (omega (arith, marked-room n a m ms is other, pair-fits n a ms room))

-- a superseded revision isn't active
pub superseded-other : (x : Selectors) → replaces_newest x ≡ true → (x.newest == x.active) ≡ false
superseded-other x replaces = grind (arith, nat_tests)

-- after marks are dropped, there is still room for the marks of a deploy
pub deploy-dropped : (q r : ℕ) (x : Selectors) (ms : List RevisionMark) → has_room_for (marked_by_deploy r x) ms ≡ true → has_room_for (marked_by_deploy r x) (marks_without q ms) ≡ true
deploy-dropped q r x ms room = go (replaces_newest x) (goes_back r x) (superseded-other x) room where
  go : (b c : Bool) → (b ≡ true → (x.newest == x.active) ≡ false) → has_room_for (only_if b x.newest ++ only_if c x.active) ms ≡ true
      → has_room_for (only_if b x.newest ++ only_if c x.active) (marks_without q ms) ≡ true
  go true true other room = pair-dropped q x.newest x.active ms (other refl) room
  go true false other room = room-dropped x.newest q ms room
  go false true other room = room-dropped x.active q ms room
  go false false other room = let few : 0 + length ms ≤ 64 = fits _ room in fits-so _ (omega (arith, length-marks_without q ms))

-- so there is room for the newest revision if it is superseded
pub room-newest : (r : ℕ) (x : Selectors) (ms : List RevisionMark) → has_room_for (marked_by_deploy r x) ms ≡ true → replaces_newest x ≡ true → has_room_for (x.newest ∷ []) ms ≡ true
room-newest r x ms room replaces = go (goes_back r x) (rw replaces at room) where
  go : (c : Bool) → has_room_for (only_if true x.newest ++ only_if c x.active) ms ≡ true → has_room_for (x.newest ∷ []) ms ≡ true
  go true room = pair-first x.newest x.active ms room
  go false room = room

-- there is room for the active one if it leaves and the newest one is superseded
pub room-both : (r : ℕ) (x : Selectors) (m : RevisionMark) (ms : List RevisionMark) → has_room_for (marked_by_deploy r x) ms ≡ true
    → replaces_newest x ≡ true → goes_back r x ≡ true → m.revision ≡ x.newest → has_room_for (x.active ∷ []) (m ∷ marks_without x.newest ms) ≡ true
room-both r x m ms room replaces back is =
    pair-marked x.newest x.active m ms is (superseded-other x replaces) (rw (replaces, back) at room)

-- there is room for the active one if it leaves and the newest one isn't superseded
pub room-active : (r : ℕ) (x : Selectors) (ms : List RevisionMark) → has_room_for (marked_by_deploy r x) ms ≡ true → goes_back r x ≡ true → has_room_for (x.active ∷ []) ms ≡ true
room-active r x ms room back = go (replaces_newest x) (rw back at room) where
  go : (b : Bool) → has_room_for (only_if b x.newest ++ only_if true x.active) ms ≡ true → has_room_for (x.active ∷ []) ms ≡ true
  go true room = pair-second x.newest x.active ms room
  go false room = room

-- after marks are dropped, there is still room for the marks of a halt
pub halt-dropped : (q : ℕ) (x : Selectors) (ms : List RevisionMark) → has_room_for (marked_by_halt x) ms ≡ true → has_room_for (marked_by_halt x) (marks_without q ms) ≡ true
halt-dropped q x ms room = go (x.newest == x.active) refl room where
  go : (b : Bool) → (x.newest == x.active) ≡ b → has_room_for (only_if (not b) x.newest ++ x.active ∷ []) ms ≡ true
      → has_room_for (only_if (not b) x.newest ++ x.active ∷ []) (marks_without q ms) ≡ true
  go true same room = room-dropped x.active q ms room
  go false other room = pair-dropped q x.newest x.active ms other room

-- so there is room for the newest revision, which is aborted
pub halt-newest : (x : Selectors) (ms : List RevisionMark) → has_room_for (marked_by_halt x) ms ≡ true → has_room_for (x.newest ∷ []) ms ≡ true
halt-newest x ms room = elim (eqb_tells x.newest x.active) [
  | inl h ↦ let one : has_room_for (x.active ∷ []) ms ≡ true = rw h.0 at room in rw h.1 one
  | inr h ↦ let both : has_room_for (x.newest ∷ x.active ∷ []) ms ≡ true = rw h.0 at room in pair-first x.newest x.active ms both
]

-- then there is room for the active one if it leaves; it is another revision
pub halt-active : (x : Selectors) (at delay : ℕ) (ms : List RevisionMark) → has_room_for (marked_by_halt x) ms ≡ true → (x.newest == x.active) ≡ false
    → has_room_for (x.active ∷ []) (with_aborted x.newest at delay ms) ≡ true
halt-active x at delay ms room other =
    let both : has_room_for (x.newest ∷ x.active ∷ []) ms ≡ true = rw other at room in
    go (nat_lt 0 delay) both where
      go : (b : Bool) → has_room_for (x.newest ∷ x.active ∷ []) ms ≡ true
          → has_room_for (x.active ∷ []) (cond b (record { revision = x.newest; cause = Aborted; deadline = at + delay } ∷ marks_without x.newest ms) (marks_without x.newest ms)) ≡ true
      go true both = pair-marked x.newest x.active (record { revision = x.newest; cause = Aborted; deadline = at + delay }) ms refl other both
      go false both = room-dropped x.active x.newest ms (pair-second x.newest x.active ms both)
