-- An earlier compaction doesn't change the result of a later one.
use Rattle.std.proofs.Common.{◌≡◌, ℕ, Bool, true, false, not, cond, ◌&&◌, ◌||◌, ◌==◌, List, [], ◌∷◌, ◌++◌, refl, ap, sym, ◌∙◌}
use Rattle.std.specs.List.{list_all}
use Rattle.std.proofs.lemmas.List.Elements.{filter-append}
use Rattle.bg_history.specs.declared.entry.Entry.{Entry}
use Rattle.bg_history.specs.declared.entry.Entry.TheVariants.{Enter, Leave}
use Rattle.bg_history.specs.declared.entry.Entry.TheVariants as entry
use Rattle.bg_history.specs.declared.entry.Outcome as outcome
use Rattle.bg_history.specs.Steps.{with_outcomes}
use Rattle.bg_history.specs.Compacted.{left_numbers, is_among, keeps, without, thin, compacted}
use Rattle.bg_history_laws.specs.Compaction.{enters_anew}
use Rattle.bg_history_laws.proofs.Compacted.Thin.{thin-front, thin-without}
use Rattle.bg_history_laws.proofs.Compacted.Closed.{compacted-left, all-among}
use Rattle.bg_history_laws.proofs.Tests.{and_parts}

left-append : (xs p : List Entry) → left_numbers (xs ++ p) ≡ left_numbers xs ++ left_numbers p
left-append [] p = refl
left-append (Leave seat number r ∷ xs) p = ap (λ t. number ∷ t) (left-append xs p)
left-append (e ∷ xs) p = left-append xs p

append-none : (xs : List ℕ) → xs ++ [] ≡ xs
append-none [] = refl
append-none (x ∷ xs) = ap (λ ys. x ∷ ys) (append-none xs)

or-three : (a b c : Bool) → a || (b || c) ≡ (a || b) || c
or-three true b c = refl
or-three false b c = refl

among-append : (xs ys : List ℕ) (n : ℕ) → is_among (xs ++ ys) n ≡ is_among xs n || is_among ys n
among-append [] ys n = refl
among-append (x ∷ xs) ys n = ap (λ t. (x == n) || t) (among-append xs ys n) ∙ or-three (x == n) (is_among xs n) (is_among ys n)

keeps-both : (g k : ℕ → Bool) (e : Entry) → keeps (λ n. g n || k n) e ≡ keeps k e && keeps g e
keeps-both g k (Enter seat service number r port) = by (g number) (k number) where
  by : (a b : Bool) → not (a || b) ≡ not b && not a
  by true true = refl
  by true false = refl
  by false true = refl
  by false false = refl
keeps-both g k (Leave seat number r) = by (g number) (k number) where
  by : (a b : Bool) → not (a || b) ≡ not b && not a
  by true true = refl
  by true false = refl
  by false true = refl
  by false false = refl
keeps-both g k e = refl

-- dropping the requests of one test, then those of another, drops those of either
without-both : (g k : ℕ → Bool) (past : List Entry) → without g (without k past) ≡ without (λ n. g n || k n) past
without-both g k [] = refl
without-both g k (e ∷ before) = go (keeps k e) (keeps g e) refl refl (keeps-both g k e) (without-both g k before) where
  go : (b c : Bool) → keeps k e ≡ b → keeps g e ≡ c → keeps (λ n. g n || k n) e ≡ keeps k e && keeps g e → without g (without k before) ≡ without (λ n. g n || k n) before
      → without g (cond b (e ∷ without k before) (without k before)) ≡ without (λ n. g n || k n) (e ∷ before)
  go true true hk hg is h = rw (hg, is, hk, hg) (ap (λ t. e ∷ t) h)
  go true false hk hg is h = rw (hg, is, hk, hg) h
  go false c hk hg is h = rw (is, hk) h

without-tests : (g k : ℕ → Bool) → ((n : ℕ) → g n ≡ k n) → (past : List Entry) → without g past ≡ without k past
without-tests g k f [] = refl
without-tests g k f (Enter seat service number r port ∷ before) = rw (f number, without-tests g k f before) refl
without-tests g k f (Leave seat number r ∷ before) = rw (f number, without-tests g k f before) refl
without-tests g k f (e ∷ before) = ap (λ t. e ∷ t) (without-tests g k f before)

-- the entry isn't the Enter of a request with one of these numbers
abbrev pub is_apart : List ℕ → Entry → Bool
is_apart left (Enter seat service number r port) = not (is_among left number)
is_apart left e = true

-- of entries that don't belong to those requests, the same are dropped
front-same : (g : ℕ → Bool) (left : List ℕ) (xs : List Entry) → list_all (is_apart left) xs ≡ true → list_all g (left_numbers xs) ≡ true
    → without (λ n. g n || is_among left n) xs ≡ without g xs
front-same g left [] h l = refl
front-same g left (Enter seat service number r port ∷ xs) h l =
    let two = and_parts (not (is_among left number)) (list_all (is_apart left) xs) h in
    go (g number) (is_among left number) two.0 (front-same g left xs two.1 l) where
      go : (b c : Bool) → not c ≡ true → without (λ n. g n || is_among left n) xs ≡ without g xs
          → cond (not (b || c)) (Enter seat service number r port ∷ without (λ n. g n || is_among left n) xs) (without (λ n. g n || is_among left n) xs)
          ≡ cond (not b) (Enter seat service number r port ∷ without g xs) (without g xs)
      go true c is rest = rest
      go false true is rest = absurd (cc)
      go false false is rest = ap (λ t. Enter seat service number r port ∷ t) rest
front-same g left (Leave seat number r ∷ xs) h l =
    let here = and_parts (g number) (list_all g (left_numbers xs)) l in
    rw here.0 (front-same g left xs h here.1)
front-same g left (e ∷ xs) h l = ap (λ t. e ∷ t) (front-same g left xs h l)

-- the numbers that left, with entries in front of a compacted past
pub left-front : (xs p : List Entry) → left_numbers (xs ++ compacted p) ≡ left_numbers xs
left-front xs p = left-append xs (compacted p) ∙ ap (λ t. left_numbers xs ++ t) (compacted-left p) ∙ append-none (left_numbers xs)

-- a number that left, in either part of a past
pub left-either : (xs p : List Entry) (n : ℕ) → is_among (left_numbers xs) n || is_among (left_numbers p) n ≡ is_among (left_numbers (xs ++ p)) n
left-either xs p n = sym (among-append (left_numbers xs) (left_numbers p) n) ∙ ap (λ t. is_among t n) (sym (left-append xs p))

pub commuting : (xs p : List Entry) → list_all (is_apart (left_numbers p)) xs ≡ true → compacted (xs ++ compacted p) ≡ compacted (xs ++ p)
commuting xs p h =
    let gx : ℕ → Bool = is_among (left_numbers xs) in
    let gp : ℕ → Bool = is_among (left_numbers p) in
    ap (λ t. thin (without (is_among t) (xs ++ compacted p))) (left-front xs p)
    ∙ ap thin (filter-append (keeps gx) xs (compacted p))
    ∙ thin-front (without gx xs) (without gx (compacted p)) (without gx (without gp p)) (thin-without gx (without gp p))
    ∙ ap (λ t. thin (without gx xs ++ t)) (without-both gx gp p)
    ∙ ap (λ t. thin (t ++ without (λ n. gx n || gp n) p)) (sym (front-same gx (left_numbers p) xs h (all-among (left_numbers xs))))
    ∙ ap thin (sym (filter-append (keeps (λ n. gx n || gp n)) xs p))
    ∙ ap thin (without-tests (λ n. gx n || gp n) (is_among (left_numbers (xs ++ p))) (left-either xs p) (xs ++ p))

-- outcomes and an event in front of a past are entries in front of it
pub outcomes-front : (outcomes : List outcome.Outcome) (e : Entry) (p : List Entry) → with_outcomes outcomes (e ∷ p) ≡ with_outcomes outcomes (e ∷ []) ++ p
outcomes-front [] e p = refl
outcomes-front (x ∷ xs) e p = ap (λ t. entry.Outcome x ∷ t) (outcomes-front xs e p)

-- outcomes, and an event that enters no request again, don't belong to the requests that left
pub front-apart : (outcomes : List outcome.Outcome) (e : Entry) (p : List Entry) → enters_anew e p ≡ true → list_all (is_apart (left_numbers p)) (with_outcomes outcomes (e ∷ [])) ≡ true
front-apart [] (Enter seat service number r port) p h = rw h refl
front-apart [] (Leave seat number r) p h = refl
front-apart [] e p h = refl
front-apart (x ∷ xs) e p h = front-apart xs e p h
