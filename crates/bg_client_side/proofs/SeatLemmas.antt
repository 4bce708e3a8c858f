-- Numbers in lists, after one was taken out or put behind the others.
use Rattle.std.proofs.Common.{◌≡◌, ◌∙◌, ◌<◌, ◌≤◌, ◌+◌, ◌||◌, ℕ, zero, suc, Bool, true, false, cond, not, nat_lt, List, [], ◌∷◌, ◌++◌, length, length-append, position, inl, inr, refl, sym, ap, subst, arith, Option, Some, None}
use Rattle.std.proofs.lemmas.Bool.{eqb-true, eqb-false, le-ltb, lt-ltb, ltb-true, ltb-false, ne_eqb}
use Rattle.std.specs.List.{position_or_len, remove}
use Rattle.bg_client_side.specs.SeatRuns.{KeepsOrder, if_true, one_if, times}
use Rattle.bg_client_side.specs.Seating.{first_seats, has, is_number, without}

-- what the first place of a number is
abbrev pub IsThere : ℕ → List ℕ → Option ℕ → Type 0
IsThere number xs None = (has number xs ≡ false) × (without number xs ≡ xs)
IsThere number xs (Some place) =
    (place < length xs) × (has number xs ≡ true) × (without number xs ≡ remove xs place)

without_at : (number : ℕ) (xs : List ℕ) → without number xs ≡ remove xs (position_or_len (is_number number) xs)
without_at number [] = refl
without_at number (x ∷ xs) = go (without_at number xs) (is_number number x) where
  go : without number xs ≡ remove xs (position_or_len (is_number number) xs) → (b : Bool)
      → cond b xs (x ∷ without number xs) ≡ remove (x ∷ xs) (cond (not b) (1 + position_or_len (is_number number) xs) 0)
  go others true = refl
  go others false =
      let more : suc (position_or_len (is_number number) xs) ≡ 1 + position_or_len (is_number number) xs = omega arith in
      ap (λ left. x ∷ left) others ∙ ap (remove (x ∷ xs)) more

past : (xs : List ℕ) (i : ℕ) → length xs ≤ i → remove xs i ≡ xs
past [] zero less = refl
past [] (suc i) less = refl
past (x ∷ xs) zero less = absurd (omega (arith, less))
past (x ∷ xs) (suc i) less = ap (λ left. x ∷ left) (past xs i (omega (arith, less)))

has_within : (number : ℕ) (xs : List ℕ) → has number xs ≡ nat_lt (position_or_len (is_number number) xs) (length xs)
has_within number [] = refl
has_within number (x ∷ xs) = go (is_number number x) (has_within number xs) where
  go : (b : Bool) → has number xs ≡ nat_lt (position_or_len (is_number number) xs) (length xs)
      → (b || has number xs) ≡ nat_lt (cond (not b) (1 + position_or_len (is_number number) xs) 0) (length (x ∷ xs))
  go true others = sym (lt-ltb 0 (length (x ∷ xs)) (omega arith))
  go false others = others ∙ one_more (nat_lt (position_or_len (is_number number) xs) (length xs)) refl where
    one_more : (b : Bool) → nat_lt (position_or_len (is_number number) xs) (length xs) ≡ b
        → nat_lt (position_or_len (is_number number) xs) (length xs)
        ≡ nat_lt (1 + position_or_len (is_number number) xs) (length (x ∷ xs))
    one_more true is = is ∙ sym (lt-ltb _ _ (let less = ltb-true _ _ is in omega (arith, less)))
    one_more false is = is ∙ sym (le-ltb _ _ (let less = ltb-false _ _ is in omega (arith, less)))

pub place_is : (number : ℕ) (xs : List ℕ) (r : Option ℕ) → r ≡ position (is_number number) xs → IsThere number xs r
place_is number xs r is =
    subst (IsThere number xs) (sym is) (go (nat_lt (position_or_len (is_number number) xs) (length xs)) refl) where
      go : (b : Bool) → nat_lt (position_or_len (is_number number) xs) (length xs) ≡ b
          → IsThere number xs (cond b (Some (position_or_len (is_number number) xs)) None)
      go true e = (ltb-true _ _ e, has_within number xs ∙ e, without_at number xs)
      go false e = (has_within number xs ∙ e, without_at number xs ∙ past xs _ (ltb-false _ _ e))

pub length_left : (number : ℕ) (xs : List ℕ) → length (without number xs) + one_if (has number xs) ≡ length xs
length_left number [] = omega arith
length_left number (x ∷ xs) = go (is_number number x) (length_left number xs) where
  go : (b : Bool) → length (without number xs) + one_if (has number xs) ≡ length xs
      → length (cond b xs (x ∷ without number xs)) + one_if (b || has number xs) ≡ length (x ∷ xs)
  go true others = omega arith
  go false others = omega (arith, others)

pub times_append : (number : ℕ) (xs ys : List ℕ) → times number (xs ++ ys) ≡ times number xs + times number ys
times_append number [] ys = omega arith
times_append number (x ∷ xs) ys = let others = times_append number xs ys in omega arith

pub times_left : (number other : ℕ) (xs : List ℕ)
    → times number xs ≡ times number (without other xs) + times number (if_true (has other xs) other)
times_left number other [] = omega arith
times_left number other (x ∷ xs) = go (is_number other x) refl (times_left number other xs) where
  go : (b : Bool) → is_number other x ≡ b
      → times number xs ≡ times number (without other xs) + times number (if_true (has other xs) other)
      → times number (x ∷ xs) ≡ times number (cond b xs (x ∷ without other xs)) + times number (if_true (b || has other xs) other)
  go true is others = let same = ap (λ y. one_if (is_number number y)) (eqb-true x other is) in omega (arith, same)
  go false is others = omega (arith, others)

pub length_first : (count : ℕ) → length (first_seats count) ≡ count
length_first zero = refl
length_first (suc count) =
    let all = length-append (first_seats count) (count ∷ []) in
    let fewer = length_first count in
    omega (arith, all, fewer)

pub none_above : (count seat : ℕ) → count ≤ seat → times seat (first_seats count) ≡ 0
none_above zero seat less = refl
none_above (suc count) seat less =
    let all = times_append seat (first_seats count) (count ∷ []) in
    let none = none_above count seat (omega (arith, less)) in
    let other = ap one_if (ne_eqb count seat (omega (arith, less))) in
    omega (arith, all, none, other)

pub one_below : (count seat : ℕ) → seat < count → times seat (first_seats count) ≡ 1
one_below zero seat less = absurd (omega (arith, less))
one_below (suc count) seat less = go (is_number seat count) refl (one_below count seat) where
  all : times seat (first_seats count ++ count ∷ []) ≡ times seat (first_seats count) + times seat (count ∷ [])
  all = times_append seat (first_seats count) (count ∷ [])

  go : (b : Bool) → is_number seat count ≡ b → (seat < count → times seat (first_seats count) ≡ 1)
      → times seat (first_seats (suc count)) ≡ 1
  go true is fewer =
      let same = eqb-true count seat is in
      let none = none_above count seat (omega (arith, same)) in
      let one = ap one_if is in
      omega (arith, all, none, one)
  go false is fewer =
      let other = eqb-false count seat is in
      let before = fewer (omega (arith, other, less)) in
      let none = ap one_if is in
      omega (arith, all, before, none)

-- LISTS OF WHICH SOME NUMBERS ARE LEFT OUT

pub order_same : (xs : List ℕ) → KeepsOrder xs xs
order_same [] = tt
order_same (x ∷ xs) = inl (refl, order_same xs)

order_skips : (x : ℕ) (xs all : List ℕ) → KeepsOrder xs all → KeepsOrder xs (x ∷ all)
order_skips x [] all is = tt
order_skips x (y ∷ xs) all is = inr is

order_behind : (all more : List ℕ) → KeepsOrder more (all ++ more)
order_behind [] more = order_same more
order_behind (x ∷ all) more = order_skips x more (all ++ more) (order_behind all more)

pub order_append : (xs all more : List ℕ) → KeepsOrder xs all → KeepsOrder (xs ++ more) (all ++ more)
order_append [] all more is = order_behind all more
order_append (x ∷ xs) [] more is = absurd is
order_append (x ∷ xs) (y ∷ all) more (inl is) = inl (is.0, order_append xs all more is.1)
order_append (x ∷ xs) (y ∷ all) more (inr is) = inr (order_append (x ∷ xs) all more is)

pub order_front : (front xs all : List ℕ) → KeepsOrder xs all → KeepsOrder (front ++ xs) (front ++ all)
order_front [] xs all is = is
order_front (x ∷ front) xs all is = inl (refl, order_front front xs all is)

pub order_through : (xs ys zs : List ℕ) → KeepsOrder xs ys → KeepsOrder ys zs → KeepsOrder xs zs
order_through [] ys zs first second = tt
order_through (x ∷ xs) [] zs first second = absurd first
order_through (x ∷ xs) (y ∷ ys) [] first second = absurd second
order_through (x ∷ xs) (y ∷ ys) (z ∷ zs) (inl first) (inl second) =
    inl (first.0 ∙ second.0, order_through xs ys zs first.1 second.1)
order_through (x ∷ xs) (y ∷ ys) (z ∷ zs) (inr first) (inl second) = inr (order_through (x ∷ xs) ys zs first second.1)
order_through (x ∷ xs) (y ∷ ys) (z ∷ zs) (inl first) (inr second) = inr (order_through (x ∷ xs) (y ∷ ys) zs (inl first) second)
order_through (x ∷ xs) (y ∷ ys) (z ∷ zs) (inr first) (inr second) = inr (order_through (x ∷ xs) (y ∷ ys) zs (inr first) second)

pub order_left : (number : ℕ) (xs : List ℕ) → KeepsOrder (without number xs) xs
order_left number [] = tt
order_left number (x ∷ xs) = go (is_number number x) (order_left number xs) where
  go : (b : Bool) → KeepsOrder (without number xs) xs → KeepsOrder (cond b xs (x ∷ without number xs)) (x ∷ xs)
  go true others = order_skips x xs xs (order_same xs)
  go false others = inl (refl, others)
