-- Entries that may be compacted, one entry after the other.
use Rattle.std.proofs.Common.{◌≡◌, ℕ, Bool, true, false, not, ◌==◌, ◌&&◌, ◌||◌, List, [], ◌∷◌, ◌++◌, refl, arith, ap, sym, ◌∙◌}
use Rattle.std.specs.List.{list_any}
use Rattle.std.proofs.lemmas.Bool.Decides.{nat_tests}
use Rattle.bg_history.specs.declared.entry.Entry.{Entry}
use Rattle.bg_history.specs.declared.entry.Entry.TheVariants.{Enter, Leave}
use Rattle.bg_history.specs.Requests.{request_numbers}
use Rattle.bg_history.specs.Compacted.{left_numbers, is_among}
use Rattle.bg_history.specs.Compacting.{is_leave_of}
use Rattle.bg_history.specs.Sound.{is_sound}

pub and_parts : (a b : Bool) → a && b ≡ true → (a ≡ true) × (b ≡ true)
and_parts true b h = (refl, h)
and_parts false b h = absurd (cc)

-- the older part of entries that may be compacted may be compacted
pub sound-part : (n : ℕ) (ys p : List Entry) → is_sound n (ys ++ p) ≡ true → is_sound n p ≡ true
sound-part n [] p h = h
sound-part n (Enter seat service number r port ∷ ys) p h = sound-part n ys p (and_parts _ (is_sound n (ys ++ p)) h).1
sound-part n (Leave seat number r ∷ ys) p h = sound-part n ys p (and_parts _ (is_sound n (ys ++ p)) h).1
sound-part n (e ∷ ys) p h = sound-part n ys p h

left-append : (xs p : List Entry) → left_numbers (xs ++ p) ≡ left_numbers xs ++ left_numbers p
left-append [] p = refl
left-append (Leave seat number r ∷ xs) p = ap (λ t. number ∷ t) (left-append xs p)
left-append (e ∷ xs) p = left-append xs p

or-three : (a b c : Bool) → a || (b || c) ≡ (a || b) || c
or-three true b c = refl
or-three false b c = refl

among-append : (xs ys : List ℕ) (n : ℕ) → is_among (xs ++ ys) n ≡ is_among xs n || is_among ys n
among-append [] ys n = refl
among-append (x ∷ xs) ys n = ap (λ t. (x == n) || t) (among-append xs ys n) ∙ or-three (x == n) (is_among xs n) (is_among ys n)

-- a number of no request is not the number of a request that left
pub left-none : (n : ℕ) (past : List Entry) → is_among (request_numbers past) n ≡ false → is_among (left_numbers past) n ≡ false
left-none n [] h = refl
left-none n (Enter seat service number r port ∷ before) h = left-none n before (by (number == n) h) where
  by : (a : Bool) → a || is_among (request_numbers before) n ≡ false → is_among (request_numbers before) n ≡ false
  by true h = absurd (cc)
  by false h = h
left-none n (Leave seat number r ∷ before) h = by (number == n) h (left-none n before) where
  by : (a : Bool) → a || is_among (request_numbers before) n ≡ false → (is_among (request_numbers before) n ≡ false → is_among (left_numbers before) n ≡ false)
      → a || is_among (left_numbers before) n ≡ false
  by true h rest = absurd (cc)
  by false h rest = rest h
left-none n (e ∷ before) h = left-none n before h

-- the entries have the Leave of the request
leaves-among : (n : ℕ) (xs : List Entry) → list_any (is_leave_of n) xs ≡ is_among (left_numbers xs) n
leaves-among n [] = refl
leaves-among n (Leave seat number r ∷ xs) = ap (λ t. (number == n) || t) (leaves-among n xs)
leaves-among n (e ∷ xs) = leaves-among n xs

or-false : (a b : Bool) → b ≡ false → a || b ≡ a
or-false true b h = refl
or-false false b h = h

pub or-right : (a b : Bool) → b ≡ true → a || b ≡ true
or-right true b h = refl
or-right false b h = h

pub not_true : (b : Bool) → not b ≡ true → b ≡ false
not_true true h = absurd (cc)
not_true false h = refl

-- the entries after an Enter tell whether its request is closed
pub enter-closed : (e : Entry) (number : ℕ) (ys p : List Entry) → is_among (request_numbers p) number ≡ false → left_numbers (e ∷ p) ≡ left_numbers p
    → is_among (left_numbers (ys ++ e ∷ p)) number ≡ list_any (is_leave_of number) ys
enter-closed e number ys p new same =
    ap (λ t. is_among t number) (left-append ys (e ∷ p) ∙ ap (λ t. left_numbers ys ++ t) same)
    ∙ among-append (left_numbers ys) (left_numbers p) number
    ∙ or-false (is_among (left_numbers ys) number) (is_among (left_numbers p) number) (left-none number p new)
    ∙ sym (leaves-among number ys)

pub itself : (n : ℕ) → (n == n) ≡ true
itself n = grind (arith, nat_tests)
