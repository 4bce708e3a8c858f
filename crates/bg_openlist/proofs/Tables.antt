-- Lists of a function's values.
use Rattle.std.proofs.Common.{◌≡◌, ℕ, ◌+◌, ◌<◌, ◌≤◌, ◌∷◌, length, get_or, set, map, replicate, refl, ap, ◌∙◌, arith}
use Prim.Native.Nat.{zero, suc}
use Rattle.std.specs.Prelude.{◌≢◌}
use Rattle.bg_openlist.specs.Tables.{table}

module _ {Y : Type 0} where
  pub length-table : (f : ℕ → Y) (a n : ℕ) → length (table f a n) ≡ n
  unfolding table
  length-table f a zero = refl
  length-table f a (suc n) = ap (λ k. suc k) (length-table f (suc a) n)

  pub get_or-table : (f : ℕ → Y) (a n i : ℕ) (d : Y) → i < n → get_or (table f a n) i d ≡ f (a + i)
  unfolding table
  get_or-table f a zero i d l = absurd (omega arith)
  get_or-table f a (suc n) zero d l = ap f (omega arith)
  get_or-table f a (suc n) (suc i) d l = get_or-table f (suc a) n i d (omega arith) ∙ ap f (omega arith)

  pub table_same : (f g : ℕ → Y) (a n : ℕ) → ((j : ℕ) → a ≤ j → j < a + n → g j ≡ f j) → table g a n ≡ table f a n
  unfolding table
  table_same f g a zero h = refl
  table_same f g a (suc n) h = (λ i. h a (omega arith) (omega arith) i ∷ table g (suc a) n) ∙ ap (λ l. f a ∷ l) (table_same f g (suc a) n (λ j le lt. h j (omega arith) (omega arith)))

  -- a table that changes at one number
  pub table-set : (f g : ℕ → Y) (a n m : ℕ) (y : Y) → m < n → g (a + m) ≡ y → ((j : ℕ) → a ≤ j → j < a + n → (j ≢ a + m) → g j ≡ f j) → table g a n ≡ set (table f a n) m y
  unfolding table
  table-set f g a zero m y l e h = absurd (omega arith)
  table-set f g a (suc n) zero y l e h =
      let here : g a ≡ y = ap g (omega arith) ∙ e in
      (λ i. here i ∷ table g (suc a) n) ∙ ap (λ t. y ∷ t) (table_same f g (suc a) n (λ j le lt. h j (omega arith) (omega arith) (λ same. absurd (omega arith))))
  table-set f g a (suc n) (suc m) y l e h =
      (λ i. h a (omega arith) (omega arith) (λ same. absurd (omega arith)) i ∷ table g (suc a) n)
      ∙ ap (λ t. f a ∷ t) (table-set f g (suc a) n m y (omega arith) (ap g (omega arith) ∙ e) (λ j le lt n'. h j (omega arith) (omega arith) (λ same. n' (omega arith))))

  pub table_const : (y : Y) (a n : ℕ) → table (λ _. y) a n ≡ replicate n y
  unfolding table
  table_const y a zero = refl
  table_const y a (suc n) = ap (λ l. y ∷ l) (table_const y (suc a) n)

pub map-table : {Y Z : Type 0} (h : Y → Z) (f : ℕ → Y) (a n : ℕ) → map h (table f a n) ≡ table (λ j. h (f j)) a n
unfolding table
map-table h f a zero = refl
map-table h f a (suc n) = ap (λ l. h (f a) ∷ l) (map-table h f (suc a) n)
