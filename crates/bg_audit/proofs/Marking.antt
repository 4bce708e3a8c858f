-- The effect of an entry on the marks in the facts.
use Rattle.std.proofs.Common.{◌≡◌, ℕ, Bool, true, false, not, cond, ◌==◌, ◌||◌, List, [], ◌∷◌, ◌++◌, map, filter, find, length, Option, Some, None, refl, ap, sym, ◌∙◌, arith, subst}
use Rattle.std.specs.List.{list_any}
use Rattle.std.specs.Option.{option_or, option_map}
use Rattle.std.proofs.lemmas.Bool.Decides.{nat_tests}
use Rattle.std.proofs.lemmas.Option.{same_Some}
use Rattle.bg_strategy.specs.declared.strategy.Strategy.{Strategy}
use Rattle.bg_history.specs.declared.entry.Entry.{Entry}
use Rattle.bg_history.specs.declared.entry.Entry.TheVariants.{Deploy, Outcome}
use Rattle.bg_history.specs.declared.entry.Outcome.TheVariants.{Removed}
use Rattle.bg_history.specs.Kept.{Opening}
use Rattle.bg_history.specs.AttemptBounds.{moment, stable_of, newest_of}
use Rattle.bg_history.specs.Selections.{active_of}
use Rattle.bg_history.specs.Sizes.{put, existing}
use Rattle.bg_history.specs.Deadlines.{exists_in}
use Rattle.bg_history.specs.Marks as past
use Rattle.bg_history_laws.specs.Reachable.{Reachable}
use Rattle.bg_audit.specs.declared.marks.Mark.{Mark}
use Rattle.bg_audit.specs.declared.marks.MarkKind.{MarkKind}
use Rattle.bg_audit.specs.declared.marks.NewestMark.{NewestMark}
use Rattle.bg_audit.specs.Marked.{kind_told, mark_told, remarked, with_revision, prepared, marked, HasMarks}
use Rattle.bg_audit.proofs.Tests.{and_parts, or_right, equal_itself, equal_numbers}
use Rattle.bg_audit.proofs.Listed.{other-number, stable-there}

-- a revision's mark with these parts
abbrev mark_of_parts : ℕ → Option Mark → NewestMark
mark_of_parts r m = record { revision = r; mark = m }

-- a revision's mark after an entry, by the kind of mark in the type of the code
pub remarked-Some : (s : Strategy) (e : Entry) (before : List Entry) (m : NewestMark) (k : MarkKind) (at n : ℕ) (told : Option MarkKind)
    → told ≡ option_map kind_told (past.kind_of s m.revision e before) → told ≡ Some k → at ≡ moment (e ∷ before) → n ≡ length before
    → mark_of_parts m.revision (Some (record { kind = k; moment = at; position = n })) ≡ remarked s e before m
remarked-Some s e before m k at n told is some now position = go (past.kind_of s m.revision e before) is where
  go : (o : Option past.MarkKind) → told ≡ option_map kind_told o
      → mark_of_parts m.revision (Some (record { kind = k; moment = at; position = n }))
      ≡ mark_of_parts m.revision (option_or (option_map (λ kind. record { kind = kind_told kind; moment = moment (e ∷ before); position = length before }) o) m.mark)
  go None h = absurd (cc)
  go (Some kind) h =
      let same : k ≡ kind_told kind = same_Some _ _ (sym some ∙ h) in
      rw (same, now, position) refl

pub remarked-None : (s : Strategy) (e : Entry) (before : List Entry) (m : NewestMark) (told : Option MarkKind)
    → told ≡ option_map kind_told (past.kind_of s m.revision e before) → told ≡ None → m ≡ remarked s e before m
remarked-None s e before m told is none = go (past.kind_of s m.revision e before) is where
  go : (o : Option past.MarkKind) → told ≡ option_map kind_told o
      → m ≡ mark_of_parts m.revision (option_or (option_map (λ kind. record { kind = kind_told kind; moment = moment (e ∷ before); position = length before }) o) m.mark)
  go None h = refl
  go (Some kind) h = absurd (cc)

-- the list has the same revisions after marking
find-remarked : (s : Strategy) (e : Entry) (before : List Entry) (r : ℕ) (ms : List NewestMark)
    → find (λ m. m.revision == r) (map (remarked s e before) ms) ≡ option_map (remarked s e before) (find (λ m. m.revision == r) ms)
find-remarked s e before r [] = refl
find-remarked s e before r (m ∷ ms) = go (m.revision == r) (find-remarked s e before r ms) where
  go : (b : Bool) → find (λ x. x.revision == r) (map (remarked s e before) ms) ≡ option_map (remarked s e before) (find (λ x. x.revision == r) ms)
      → cond b (Some (remarked s e before m)) (find (λ x. x.revision == r) (map (remarked s e before) ms))
      ≡ option_map (remarked s e before) (cond b (Some m) (find (λ x. x.revision == r) ms))
  go true rest = refl
  go false rest = rest

-- the mark after an entry, by whether the entry makes one
told-or : (k : Option past.MarkKind) (m : Option past.Mark) (at n : ℕ)
    → option_or (option_map (λ kind. record { kind = kind_told kind; moment = at; position = n }) k) (option_map mark_told m)
    ≡ option_map mark_told (option_or (option_map (λ kind. record { kind = kind; moment = at; position = n }) k) m)
told-or None m at n = refl
told-or (Some k) m at n = refl

-- the element of a revision gets its new mark
remarked-marked : (s : Strategy) (e : Entry) (before : List Entry) (r : ℕ) → remarked s e before (marked s before r) ≡ marked s (e ∷ before) r
remarked-marked s e before r =
    ap (λ (m : Option Mark). record { revision = r; mark = m }) (told-or (past.kind_of s r e before) (past.mark s r before) (moment (e ∷ before)) (length before))

-- a revision that was found is found with its new mark
found-again : (s : Strategy) (e : Entry) (before : List Entry) (r : ℕ) (ms : List NewestMark) → find (λ m. m.revision == r) ms ≡ Some (marked s before r)
    → find (λ m. m.revision == r) (map (remarked s e before) ms) ≡ Some (marked s (e ∷ before) r)
found-again s e before r ms found = find-remarked s e before r ms ∙ ap (option_map (remarked s e before)) found ∙ ap (λ m. Some m) (remarked-marked s e before r)

-- dropping another revision keeps the element of this one
find-without : (q r : ℕ) (ms : List NewestMark) → (r == q) ≡ false → find (λ m. m.revision == r) (filter (λ m. not (m.revision == q)) ms) ≡ find (λ m. m.revision == r) ms
find-without q r [] other = refl
find-without q r (m ∷ ms) other = go (m.revision == q) (m.revision == r) refl refl (find-without q r ms other) where
  go : (b c : Bool) → (m.revision == q) ≡ b → (m.revision == r) ≡ c → find (λ x. x.revision == r) (filter (λ x. not (x.revision == q)) ms) ≡ find (λ x. x.revision == r) ms
      → find (λ x. x.revision == r) (cond (not b) (m ∷ filter (λ x. not (x.revision == q)) ms) (filter (λ x. not (x.revision == q)) ms))
      ≡ cond c (Some m) (find (λ x. x.revision == r) ms)
  go true true isb isc rest = let e : r ≡ q = sym (equal_numbers m.revision r isc) ∙ equal_numbers m.revision q isb in absurd (grind (arith, nat_tests))
  go true false isb isc rest = rest
  go false c isb isc rest = rw isc (both c rest) where
    both : (c : Bool) → find (λ x. x.revision == r) (filter (λ x. not (x.revision == q)) ms) ≡ find (λ x. x.revision == r) ms
        → cond c (Some m) (find (λ x. x.revision == r) (filter (λ x. not (x.revision == q)) ms)) ≡ cond c (Some m) (find (λ x. x.revision == r) ms)
    both true rest = refl
    both false rest = rest

-- adding a revision keeps the elements of the others
found-more : (p : NewestMark → Bool) (ms more : List NewestMark) (m : NewestMark) → find p ms ≡ Some m → find p (ms ++ more) ≡ Some m
found-more p [] more m found = absurd (cc)
found-more p (x ∷ xs) more m found = go (p x) found (found-more p xs more m) where
  go : (b : Bool) → cond b (Some x) (find p xs) ≡ Some m → (find p xs ≡ Some m → find p (xs ++ more) ≡ Some m) → cond b (Some x) (find p (xs ++ more)) ≡ Some m
  go true h rest = h
  go false h rest = rest h

found-added : (q r : ℕ) (ms : List NewestMark) (m : NewestMark) → find (λ x. x.revision == r) ms ≡ Some m → find (λ x. x.revision == r) (with_revision q ms) ≡ Some m
found-added q r ms m found = go (list_any (λ x. x.revision == q) ms) where
  go : (b : Bool) → find (λ x. x.revision == r) (cond b ms (ms ++ record { revision = q; mark = None } ∷ [])) ≡ Some m
  go true = found
  go false = found-more (λ x. x.revision == r) ms (record { revision = q; mark = None } ∷ []) m found

-- the added revision has an element, with some mark
pub record There (q : ℕ) (ms : List NewestMark) : Type 0 where
  pub kept : Option Mark
  pub found : find (λ x. x.revision == q) ms ≡ Some (record { revision = q; mark = kept })

there-first : (q : ℕ) (m : NewestMark) (ms : List NewestMark) → m.revision ≡ q → There q (m ∷ ms)
there-first q m ms is = record {
  kept = m.mark;
  found = rw (is, equal_itself q) refl;
}

there-rest : (q : ℕ) (m : NewestMark) (ms : List NewestMark) → (m.revision == q) ≡ false → There q ms → There q (m ∷ ms)
there-rest q m ms other t = record { kept = t.kept; found = rw other t.found }

there-any : (q : ℕ) (ms : List NewestMark) → list_any (λ x. x.revision == q) ms ≡ true → There q ms
there-any q [] h = absurd (cc)
there-any q (m ∷ ms) h = go (m.revision == q) refl h (there-any q ms) where
  go : (b : Bool) → (m.revision == q) ≡ b → b || list_any (λ x. x.revision == q) ms ≡ true → (list_any (λ x. x.revision == q) ms ≡ true → There q ms) → There q (m ∷ ms)
  go true is h rest = there-first q m ms (equal_numbers m.revision q is)
  go false is h rest = there-rest q m ms is (rest h)

there-end : (q : ℕ) (ms : List NewestMark) → There q (ms ++ record { revision = q; mark = None } ∷ [])
there-end q [] = there-first q (record { revision = q; mark = None }) [] refl
there-end q (m ∷ ms) = go (m.revision == q) refl (there-end q ms) where
  go : (b : Bool) → (m.revision == q) ≡ b → There q (ms ++ record { revision = q; mark = None } ∷ []) → There q (m ∷ (ms ++ record { revision = q; mark = None } ∷ []))
  go true is rest = there-first q m (ms ++ record { revision = q; mark = None } ∷ []) (equal_numbers m.revision q is)
  go false is rest = there-rest q m (ms ++ record { revision = q; mark = None } ∷ []) is rest

there-added : (q : ℕ) (ms : List NewestMark) → There q (with_revision q ms)
there-added q ms = go (list_any (λ x. x.revision == q) ms) refl where
  go : (b : Bool) → list_any (λ x. x.revision == q) ms ≡ b → There q (cond b ms (ms ++ record { revision = q; mark = None } ∷ []))
  go true is = there-any q ms is
  go false is = there-end q ms

-- the deploy of a revision that doesn't exist clears its mark
deployed-kind : (s : Strategy) (q : ℕ) (name ports : List ℕ) (before : List Entry) → (active_of before == q) ≡ false → (newest_of before == q) ≡ false → (q == stable_of before) ≡ false
    → past.kind_of s q (Deploy q name ports) before ≡ Some past.Cleared
deployed-kind s q name ports before active newest stable = rw (active, newest, equal_itself q, stable) refl

cleared-or : (k : Option past.MarkKind) (m n : Option Mark) (at position : ℕ) → k ≡ Some past.Cleared
    → option_or (option_map (λ kind. record { kind = kind_told kind; moment = at; position = position }) k) m
    ≡ option_or (option_map (λ kind. record { kind = kind_told kind; moment = at; position = position }) k) n
cleared-or None m n at position is = absurd (cc)
cleared-or (Some k) m n at position is = refl

swap-equal : (m n : ℕ) → (m == n) ≡ false → (n == m) ≡ false
swap-equal m n h = grind (arith, nat_tests)

fresh-found : (s : Strategy) (o : Opening) (q : ℕ) (name ports : List ℕ) (before : List Entry) (ms : List NewestMark) → Reachable s o before → exists_in q before ≡ false
    → find (λ m. m.revision == q) (map (remarked s (Deploy q name ports) before) (with_revision q ms)) ≡ Some (marked s (Deploy q name ports ∷ before) q)
fresh-found s o q name ports before ms reach fresh =
    let t = there-added q ms in
    let e : Entry = Deploy q name ports in
    let active : (active_of before == q) ≡ false = swap-equal q (active_of before) (other-number q (active_of before) before fresh (and_parts (exists_in (active_of before) before) _ reach.active).0) in
    let newest : (newest_of before == q) ≡ false = swap-equal q (newest_of before) (other-number q (newest_of before) before fresh reach.newest) in
    let stable : (q == stable_of before) ≡ false = other-number q (stable_of before) before fresh (stable-there s o before reach) in
    find-remarked s e before q (with_revision q ms) ∙ ap (option_map (remarked s e before)) t.found
    ∙ ap (λ (m : Option Mark). Some (record { revision = q; mark = m }))
    (cleared-or (past.kind_of s q e before) t.kept (option_map mark_told (past.mark s q before)) (moment (e ∷ before)) (length before) (deployed-kind s q name ports before active newest stable))
    ∙ ap (λ m. Some m) (remarked-marked s e before q)

-- a list has a number that was put into it, and the numbers that it had
member-put : (q r : ℕ) (xs : List ℕ) → list_any (λ x. x == q) (put r xs) ≡ ((r == q) || list_any (λ x. x == q) xs)
member-put q r [] = refl
member-put q r (x ∷ xs) = grind (arith, nat_tests, member-put q r xs)

-- a number of the list without another one was in the list, and differs from that one
member-without : (q r : ℕ) (xs : List ℕ) → list_any (λ x. x == r) (filter (λ x. not (x == q)) xs) ≡ true → ((r == q) ≡ false) × (list_any (λ x. x == r) xs ≡ true)
member-without q r [] h = absurd (cc)
member-without q r (x ∷ xs) h = go (x == q) (x == r) refl refl h (member-without q r xs) where
  go : (b c : Bool) → (x == q) ≡ b → (x == r) ≡ c → list_any (λ y. y == r) (cond (not b) (x ∷ filter (λ y. not (y == q)) xs) (filter (λ y. not (y == q)) xs)) ≡ true
      → (list_any (λ y. y == r) (filter (λ y. not (y == q)) xs) ≡ true → ((r == q) ≡ false) × (list_any (λ y. y == r) xs ≡ true))
      → ((r == q) ≡ false) × (c || list_any (λ y. y == r) xs ≡ true)
  go true c isb isc h rest = let both = rest h in (both.0, or_right c (list_any (λ y. y == r) xs) both.1)
  go false true isb isc h rest = let e : x ≡ r = equal_numbers x r isc in (rw e at isb, refl)
  go false false isb isc h rest = rest (rw isc at h)

-- the marks after an entry
pub marks-taken : (s : Strategy) (o : Opening) (e : Entry) (before : List Entry) (ms new : List NewestMark) → Reachable s o before
    → new ≡ map (remarked s e before) (prepared e ms) → HasMarks s before ms → HasMarks s (e ∷ before) new
marks-taken s o (Deploy q name ports) before ms new reach is has = λ r there. rw is (go r (exists_in r before) refl (sym (member-put r q (existing before)) ∙ there)) where
  go : (r : ℕ) (b : Bool) → exists_in r before ≡ b → (q == r) || b ≡ true
      → find (λ m. m.revision == r) (map (remarked s (Deploy q name ports) before) (with_revision q ms)) ≡ Some (marked s (Deploy q name ports ∷ before) r)
  go r true was h = found-again s (Deploy q name ports) before r (with_revision q ms) (found-added q r ms (marked s before r) (has r was))
  go r false was h =
      let e : q ≡ r = grind (arith, nat_tests) in
      subst (λ (k : ℕ). find (λ m. m.revision == k) (map (remarked s (Deploy q name ports) before) (with_revision q ms)) ≡ Some (marked s (Deploy q name ports ∷ before) k)) e
      (fresh-found s o q name ports before ms reach (rw (← e) at was))
marks-taken s o (Outcome (Removed q)) before ms new reach is has = λ r there.
    let h = member-without q r (existing before) there in
    rw is (found-again s (Outcome (Removed q)) before r (filter (λ m. not (m.revision == q)) ms) (find-without q r ms h.0 ∙ has r h.1))
marks-taken s o e before ms new reach is has = λ r there. rw is (found-again s e before r ms (has r there))

-- the marks at the opening
pub marks-opening : (s : Strategy) → HasMarks s [] (record { revision = 1; mark = None } ∷ [])
marks-opening s r there = let e : 1 ≡ r = grind (arith, nat_tests) in rw (← e) refl
