-- No node occurs twice in the lists that callers see.
use Rattle.std.proofs.Common.{◌≡◌, ℕ, ◌+◌, ◌-◌, ◌<◌, ◌≤◌, List, [], ◌∷◌, ◌++◌, get_or, map, sym, ap, ◌∙◌, arith, Option}
use Prim.Native.Nat.{zero, suc}
use mathlib.Core.Path.{subst}
use Rattle.bg_openlist.specs.Block.{AreNodes, pairs_of}
use Rattle.bg_openlist.specs.Distinct.{Fresh, Distinct}
use Rattle.bg_openlist.specs.Family.{linked_nodes}
use Rattle.bg_openlist.specs.Tables.{table}
use Rattle.bg_openlist.proofs.Pairs.{first_pair}

-- the number of its list distinguishes each node from those of later lists
module _ (t : ℕ → ℕ) where
  abbrev pub AllAt : ℕ → List ℕ → Type 0
  AllAt l [] = Unit {0}
  AllAt l (j ∷ js) = (t j ≡ l) × AllAt l js

  abbrev AllFrom : ℕ → List ℕ → Type 0
  AllFrom l [] = Unit {0}
  AllFrom l (j ∷ js) = (l ≤ t j) × AllFrom l js

  from_append : (a : ℕ) (xs ys : List ℕ) → AllAt a xs → AllFrom (suc a) ys → AllFrom a (xs ++ ys)
  from_append a [] [] p q = tt
  from_append a [] (y ∷ ys) p q = let le = q.0 in (omega arith, from_append a [] ys tt q.1)
  from_append a (x ∷ xs) ys p q = let e = p.0 in (omega arith, from_append a xs ys p.1 q)

  fresh_from : (x a : ℕ) (ys : List ℕ) → t x ≡ a → AllFrom (suc a) ys → Fresh x ys
  fresh_from x a [] e q = tt
  fresh_from x a (y ∷ ys) e q = let le = q.0 in ((λ same. let twice : t y ≡ t x = ap t same in absurd (omega arith)), fresh_from x a ys e q.1)

  fresh_both : (x : ℕ) (xs ys : List ℕ) → Fresh x xs → Fresh x ys → Fresh x (xs ++ ys)
  fresh_both x [] ys f g = g
  fresh_both x (z ∷ xs) ys f g = (f.0, fresh_both x xs ys f.1 g)

  distinct_both : (a : ℕ) (xs ys : List ℕ) → Distinct xs → Distinct ys → AllAt a xs → AllFrom (suc a) ys → Distinct (xs ++ ys)
  distinct_both a [] ys d e p q = e
  distinct_both a (x ∷ xs) ys d e p q = (fresh_both x xs ys d.0 (fresh_from x a ys p.0 q), distinct_both a xs ys d.1 e p.1 q)

  module _ {X : Type 0} (f : ℕ → List (ℕ × X)) where
    abbrev names : ℕ → List ℕ
    names l = map (λ p. p.0) (f l)

    pub once : (a n : ℕ) → ((j : ℕ) → a ≤ j → j < a + n → Distinct (names j) × AllAt j (names j)) → Distinct (linked_nodes (table f a n)) × AllFrom a (linked_nodes (table f a n))
    unfolding table
    once a zero h = (tt, tt)
    once a (suc n) h =
        let here = h a (omega arith) (omega arith) in
        let rest = once (suc a) n (λ j le lt. h j (omega arith) (omega arith)) in
        (distinct_both a (names a) (linked_nodes (table f (suc a) n)) here.0 rest.0 here.1 rest.1, from_append a (names a) (linked_nodes (table f (suc a) n)) here.1 rest.1)

module _ {X : Type 0} (tg : List ℕ) (vs : List (Option X)) (l : ℕ) where
  abbrev seen : List ℕ → List ℕ
  seen ks = map (λ p. p.0) (pairs_of vs ks)

  pub all_at : (ks : List ℕ) → AreNodes tg vs l ks → AllAt (λ j. get_or tg (64 + j) 0) l (seen ks)
  all_at [] b = tt
  all_at (y ∷ ys) b =
      let n = b.0 in let high = n.high in let back : 64 + (y - 64) ≡ y = omega arith in
      subst (λ ps. AllAt (λ j. get_or tg (64 + j) 0) l (map (λ p. p.0) ps)) (sym (first_pair tg vs l y ys n)) (ap (λ j. get_or tg j 0) back ∙ n.list, all_at ys b.1)

  fresh_seen : (y : ℕ) (ks : List ℕ) → 64 ≤ y → AreNodes tg vs l ks → Fresh y ks → Fresh (y - 64) (seen ks)
  fresh_seen y [] high b f = tt
  fresh_seen y (z ∷ zs) high b f =
      let n = b.0 in let too = n.high in
      subst (λ ps. Fresh (y - 64) (map (λ p. p.0) ps)) (sym (first_pair tg vs l z zs n)) ((λ e. f.0 (omega arith)), fresh_seen y zs high b.1 f.1)

  pub distinct_seen : (ks : List ℕ) → AreNodes tg vs l ks → Distinct ks → Distinct (seen ks)
  distinct_seen [] b d = tt
  distinct_seen (y ∷ ys) b d =
      subst (λ ps. Distinct (map (λ p. p.0) ps)) (sym (first_pair tg vs l y ys b.0)) (fresh_seen y ys b.0.high b.1 d.0, distinct_seen ys b.1 d.1)
