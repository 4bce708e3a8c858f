-- Tests: both of two, and equality of numbers.
use Rattle.std.proofs.Common.{◌≡◌, ℕ, Bool, true, false, not, ◌==◌, ◌&&◌, ◌||◌, refl, arith}
use Rattle.std.proofs.lemmas.Bool.Decides.{nat_tests}

-- if both of two hold, each holds
pub and_parts : (a b : Bool) → a && b ≡ true → (a ≡ true) × (b ≡ true)
and_parts true b h = (refl, h)
and_parts false b h = absurd (cc)

-- if each of two holds, both hold
pub and_both : (a b : Bool) → a ≡ true → b ≡ true → a && b ≡ true
and_both true b ha hb = hb
and_both false b ha hb = absurd (cc)

-- if the second of two fails, they don't both hold
pub and_false : (a b : Bool) → b ≡ false → a && b ≡ false
and_false true b h = h
and_false false b h = refl

-- if one of two holds, they don't both fail
pub or_left : (a b : Bool) → a ≡ true → a || b ≡ true
or_left true b h = refl
or_left false b h = absurd (cc)

pub or_right : (a b : Bool) → b ≡ true → a || b ≡ true
or_right true b h = refl
or_right false b h = h

-- a test whose negation holds is false
pub not_true : (b : Bool) → not b ≡ true → b ≡ false
not_true true h = absurd (cc)
not_true false h = refl

-- what is false isn't so
pub not_false : (b : Bool) → b ≡ false → not b ≡ true
not_false true h = absurd (cc)
not_false false h = refl

-- nothing is both
pub both_ways : {P : Type 0} → (b : Bool) → b ≡ true → b ≡ false → P
both_ways true h k = absurd (cc)
both_ways false h k = absurd (cc)

-- a number equals itself
pub equal_itself : (n : ℕ) → (n == n) ≡ true
equal_itself n = grind (arith, nat_tests)

-- numbers that the test finds equal are one
pub equal_numbers : (m n : ℕ) → (m == n) ≡ true → m ≡ n
equal_numbers m n h = grind (arith, nat_tests)
