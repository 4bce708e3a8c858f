-- An earlier compaction doesn't change the closed counts after a later one.
use Rattle.std.proofs.Common.{◌≡◌, ℕ, zero, suc, Bool, true, false, not, cond, ◌||◌, List, [], ◌∷◌, ◌++◌, refl, ap, sym, ◌∙◌}
use Rattle.std.specs.List.{list_all}
use Rattle.bg_history.specs.declared.entry.Entry.{Entry}
use Rattle.bg_history.specs.declared.entry.Entry.TheVariants.{Tick, Enter, Leave}
use Rattle.bg_history.specs.Compacted.{left_numbers, is_among, without, untick, thin, compacted, bump, raised, closed_after}
use Rattle.bg_history_laws.proofs.Compacted.Closed.{compacted-left}
use Rattle.bg_history_laws.proofs.Compacted.Commuting.{is_apart, left-front, left-either}
use Rattle.bg_history_laws.proofs.Tests.{and_parts}

bump-bump : (i j : ℕ) (xs : List ℕ) → bump i (bump j xs) ≡ bump j (bump i xs)
bump-bump i j [] = refl
bump-bump zero zero (x ∷ xs) = refl
bump-bump zero (suc j) (x ∷ xs) = refl
bump-bump (suc i) zero (x ∷ xs) = refl
bump-bump (suc i) (suc j) (x ∷ xs) = ap (λ t. x ∷ t) (bump-bump i j xs)

-- one more at the begin gives one more at the end
raised-bump : (g : ℕ → Bool) (p : List Entry) (i : ℕ) (closed : List ℕ) → raised g p (bump i closed) ≡ bump i (raised g p closed)
raised-bump g [] i closed = refl
raised-bump g (Enter seat service number r port ∷ before) i closed = go (g number) (raised-bump g before i closed) where
  go : (b : Bool) → raised g before (bump i closed) ≡ bump i (raised g before closed)
      → cond b (bump seat (raised g before (bump i closed))) (raised g before (bump i closed)) ≡ bump i (cond b (bump seat (raised g before closed)) (raised g before closed))
  go true h = ap (bump seat) h ∙ bump-bump seat i (raised g before closed)
  go false h = h
raised-bump g (Leave seat number r ∷ before) i closed = raised-bump g before i closed
raised-bump g (e ∷ before) i closed = raised-bump g before i closed

raised-front : (g : ℕ → Bool) (xs p : List Entry) (closed : List ℕ) → raised g (xs ++ p) closed ≡ raised g xs (raised g p closed)
raised-front g [] p closed = refl
raised-front g (Enter seat service number r port ∷ xs) p closed = ap (λ t. cond (g number) (bump seat t) t) (raised-front g xs p closed)
raised-front g (Leave seat number r ∷ xs) p closed = raised-front g xs p closed
raised-front g (e ∷ xs) p closed = raised-front g xs p closed

raised-tests : (g k : ℕ → Bool) → ((n : ℕ) → g n ≡ k n) → (p : List Entry) (closed : List ℕ) → raised g p closed ≡ raised k p closed
raised-tests g k f [] closed = refl
raised-tests g k f (Enter seat service number r port ∷ before) closed = rw (f number, raised-tests g k f before closed) refl
raised-tests g k f (Leave seat number r ∷ before) closed = raised-tests g k f before closed
raised-tests g k f (e ∷ before) closed = raised-tests g k f before closed

raised-none : (p : List Entry) (closed : List ℕ) → raised (is_among []) p closed ≡ closed
raised-none [] closed = refl
raised-none (Enter seat service number r port ∷ before) closed = raised-none before closed
raised-none (Leave seat number r ∷ before) closed = raised-none before closed
raised-none (e ∷ before) closed = raised-none before closed

untick-raised : (g : ℕ → Bool) (p : List Entry) (closed : List ℕ) → raised g (untick p) closed ≡ raised g p closed
untick-raised g [] closed = refl
untick-raised g (Tick m ∷ before) closed = refl
untick-raised g (e ∷ before) closed = refl

thin-raised : (g : ℕ → Bool) (p : List Entry) (closed : List ℕ) → raised g (thin p) closed ≡ raised g p closed
thin-raised g [] closed = refl
thin-raised g (Tick m ∷ before) closed = untick-raised g (thin before) closed ∙ thin-raised g before closed
thin-raised g (Enter seat service number r port ∷ before) closed = ap (λ t. cond (g number) (bump seat t) t) (thin-raised g before closed)
thin-raised g (Leave seat number r ∷ before) closed = thin-raised g before closed
thin-raised g (e ∷ before) closed = thin-raised g before closed

-- counting the requests of one test, then the remaining ones of another, counts those of either
raised-both : (g k : ℕ → Bool) (p : List Entry) (closed : List ℕ) → raised g (without k p) (raised k p closed) ≡ raised (λ n. g n || k n) p closed
raised-both g k [] closed = refl
raised-both g k (Enter seat service number r port ∷ before) closed = go (g number) (k number) refl (raised-both g k before closed) where
  go : (a b : Bool) → g number ≡ a → raised g (without k before) (raised k before closed) ≡ raised (λ n. g n || k n) before closed
      → raised g (cond (not b) (Enter seat service number r port ∷ without k before) (without k before)) (cond b (bump seat (raised k before closed)) (raised k before closed))
      ≡ cond (a || b) (bump seat (raised (λ n. g n || k n) before closed)) (raised (λ n. g n || k n) before closed)
  go true true is h = raised-bump g (without k before) seat (raised k before closed) ∙ ap (bump seat) h
  go false true is h = raised-bump g (without k before) seat (raised k before closed) ∙ ap (bump seat) h
  go true false is h = rw is (ap (bump seat) h)
  go false false is h = rw is h
raised-both g k (Leave seat number r ∷ before) closed = go (k number) (raised-both g k before closed) where
  go : (b : Bool) → raised g (without k before) (raised k before closed) ≡ raised (λ n. g n || k n) before closed
      → raised g (cond (not b) (Leave seat number r ∷ without k before) (without k before)) (raised k before closed) ≡ raised (λ n. g n || k n) before closed
  go true h = h
  go false h = h
raised-both g k (e ∷ before) closed = raised-both g k before closed

-- of entries that don't belong to those requests, the same are counted
front-raised : (g : ℕ → Bool) (left : List ℕ) (xs : List Entry) (closed : List ℕ) → list_all (is_apart left) xs ≡ true → raised (λ n. g n || is_among left n) xs closed ≡ raised g xs closed
front-raised g left [] closed h = refl
front-raised g left (Enter seat service number r port ∷ xs) closed h =
    let two = and_parts (not (is_among left number)) (list_all (is_apart left) xs) h in
    go (g number) (is_among left number) two.0 (front-raised g left xs closed two.1) where
      go : (b c : Bool) → not c ≡ true → raised (λ n. g n || is_among left n) xs closed ≡ raised g xs closed
          → cond (b || c) (bump seat (raised (λ n. g n || is_among left n) xs closed)) (raised (λ n. g n || is_among left n) xs closed)
          ≡ cond b (bump seat (raised g xs closed)) (raised g xs closed)
      go b true is rest = absurd (cc)
      go true false is rest = ap (bump seat) rest
      go false false is rest = rest
front-raised g left (Leave seat number r ∷ xs) closed h = front-raised g left xs closed h
front-raised g left (e ∷ xs) closed h = front-raised g left xs closed h

pub commuting-closed : (xs p : List Entry) (closed : List ℕ) → list_all (is_apart (left_numbers p)) xs ≡ true
    → closed_after (xs ++ compacted p) (closed_after p closed) ≡ closed_after (xs ++ p) closed
commuting-closed xs p closed h =
    let gx : ℕ → Bool = is_among (left_numbers xs) in
    let gp : ℕ → Bool = is_among (left_numbers p) in
    ap (λ t. raised (is_among t) (xs ++ compacted p) (raised gp p closed)) (left-front xs p)
    ∙ raised-front gx xs (compacted p) (raised gp p closed)
    ∙ ap (raised gx xs) (thin-raised gx (without gp p) (raised gp p closed) ∙ raised-both gx gp p closed)
    ∙ sym (front-raised gx (left_numbers p) xs (raised (λ n. gx n || gp n) p closed) h)
    ∙ sym (raised-front (λ n. gx n || gp n) xs p closed)
    ∙ raised-tests (λ n. gx n || gp n) (is_among (left_numbers (xs ++ p))) (left-either xs p) (xs ++ p) closed

pub closed-once : (past : List Entry) (closed : List ℕ) → closed_after (compacted past) closed ≡ closed
closed-once past closed = ap (λ t. raised (is_among t) (compacted past) closed) (compacted-left past) ∙ raised-none (compacted past) closed
