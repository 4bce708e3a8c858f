-- The lines of an input, by its first line break.
use Rattle.std.proofs.Common.{◌≡◌, ◌==◌, ℕ, ◌+◌, ◌<◌, Bool, true, false, not, cond, List, [], ◌∷◌, ◌++◌, length, drop, take, nat_le, nat_lt, map}
use Rattle.std.proofs.Common.{Some, None, refl, ap, ◌∙◌, arith, inl, inr, ◌⊎◌}
use Rattle.std.specs.List.{position_or_len}
use Rattle.bg_control_port.specs.Lines.{after_break, behind, break_at, given, given_for, given_with, lines, with_first, Whole, Bytes, TooLong}

-- no byte is a line break
abbrev pub NoBreak : List ℕ → Type 0
NoBreak [] = Unit {0}
NoBreak (byte ∷ bytes) = ((byte == 10) ≡ false) × NoBreak bytes

-- the first line break, and what stands before and behind it
pub record IsSplit (bytes : List ℕ) : Type 0 where
  pub text : List ℕ
  pub rest : List ℕ
  pub parts : bytes ≡ text ++ 10 ∷ rest
  pub none : NoBreak text

pub split : (bytes : List ℕ) → NoBreak bytes ⊎ IsSplit bytes
split [] = inl tt
split (byte ∷ bytes) = go (byte == 10) refl (split bytes) where
  go : (t : Bool) → (byte == 10) ≡ t → NoBreak bytes ⊎ IsSplit bytes → NoBreak (byte ∷ bytes) ⊎ IsSplit (byte ∷ bytes)
  go true e s = inr (record { text = []; rest = bytes; parts = ap (λ b. b ∷ bytes) (let same : byte ≡ 10 = grind arith in same); none = tt })
  go false e (inl n) = inl (e, n)
  go false e (inr s) = inr (record { text = byte ∷ s.text; rest = s.rest; parts = ap (λ bs. byte ∷ bs) s.parts; none = (e, s.none) })

pub no_break-append : (one other : List ℕ) → NoBreak one → NoBreak other → NoBreak (one ++ other)
no_break-append [] other n m = m
no_break-append (byte ∷ one) other n m = (n.0, no_break-append one other n.1 m)

abbrev before : List ℕ → ℕ
before bytes = position_or_len (λ byte. byte == 10) bytes

before_none : (text : List ℕ) → NoBreak text → before text ≡ length text
before_none [] n = refl
before_none (byte ∷ text) n =
    let step : before (byte ∷ text) ≡ 1 + before text = ap (λ t. cond (not t) (1 + before text) 0) n.0 in
    let more = before_none text n.1 in
    omega (arith, step, more)

before_some : (text rest : List ℕ) → NoBreak text → before (text ++ 10 ∷ rest) ≡ length text
before_some [] rest n = refl
before_some (byte ∷ text) rest n =
    let step : before (byte ∷ (text ++ 10 ∷ rest)) ≡ 1 + before (text ++ 10 ∷ rest) =
    ap (λ t. cond (not t) (1 + before (text ++ 10 ∷ rest)) 0) n.0 in
    let more = before_some text rest n.1 in
    omega (arith, step, more)

not_less : (n : ℕ) → nat_lt n n ≡ false
not_less n = grind arith

less : (m n : ℕ) → m < n → nat_lt m n ≡ true
less m n h = grind arith

pub break_none : (text : List ℕ) → NoBreak text → break_at text ≡ None
break_none text n =
    ap (λ k. cond (nat_lt k (length text)) (Some k) None) (before_none text n)
    ∙ ap (λ t. cond t (Some (length text)) None) (not_less (length text))

length-split : (text rest : List ℕ) → length text < length (text ++ 10 ∷ rest)
length-split [] rest = omega arith
length-split (byte ∷ text) rest = let h = length-split text rest in omega (arith, h)

pub break_some : (text rest : List ℕ) → NoBreak text → break_at (text ++ 10 ∷ rest) ≡ Some (length text)
break_some text rest n =
    let all = text ++ 10 ∷ rest in
    ap (λ k. cond (nat_lt k (length all)) (Some k) None) (before_some text rest n)
    ∙ ap (λ t. cond t (Some (length text)) None) (less (length text) (length all) (length-split text rest))

pub take-split : (text rest : List ℕ) → take (length text + 1) (text ++ 10 ∷ rest) ≡ text ++ 10 ∷ []
take-split [] rest = grind arith
take-split (byte ∷ text) rest = let h = take-split text rest in grind (arith, h)

pub drop-split : (text rest : List ℕ) → drop (length text + 1) (text ++ 10 ∷ rest) ≡ rest
drop-split [] rest = grind arith
drop-split (byte ∷ text) rest = let h = drop-split text rest in grind (arith, h)

pub after_none : (text : List ℕ) → NoBreak text → after_break text ≡ []
after_none text n = ap (λ p. behind p text) (break_none text n)

pub after_some : (text rest : List ℕ) → NoBreak text → after_break (text ++ 10 ∷ rest) ≡ rest
after_some text rest n = ap (λ p. behind p (text ++ 10 ∷ rest)) (break_some text rest n) ∙ drop-split text rest

lines_some : (text rest : List ℕ) → NoBreak text → lines (text ++ 10 ∷ rest) ≡ (text ++ 10 ∷ []) ∷ lines rest
lines_some [] rest n = refl
lines_some (byte ∷ text) rest n =
    ap (λ t. cond t ((byte ∷ []) ∷ lines (text ++ 10 ∷ rest)) (with_first byte (lines (text ++ 10 ∷ rest)))) n.0
    ∙ ap (λ ls. with_first byte ls) (lines_some text rest n.1)

lines_none : (byte : ℕ) (text : List ℕ) → NoBreak (byte ∷ text) → lines (byte ∷ text) ≡ (byte ∷ text) ∷ []
lines_none byte [] n = ap (λ t. cond t ((byte ∷ []) ∷ []) ((byte ∷ []) ∷ [])) n.0
lines_none byte (next ∷ text) n =
    ap (λ t. cond t ((byte ∷ []) ∷ lines (next ∷ text)) (with_first byte (lines (next ∷ text)))) n.0
    ∙ ap (λ ls. with_first byte ls) (lines_none next text n.1)

-- what is read for a line with a line break, and for a line without one
abbrev pub given_text : List ℕ → List ℕ → Whole
given_text text line = cond (nat_le 4098 (length text)) TooLong (Bytes line)

pub given_some : (text rest : List ℕ) → NoBreak text
    → given (text ++ 10 ∷ rest) ≡ given_text text (text ++ 10 ∷ []) ∷ given rest
given_some text rest n =
    ap (λ ls. map given_for ls) (lines_some text rest n)
    ∙ ap (λ p. given_with p (text ++ 10 ∷ []) ∷ given rest) (break_some text [] n)

pub given_none : (byte : ℕ) (text : List ℕ) → NoBreak (byte ∷ text)
    → given (byte ∷ text) ≡ given_text (byte ∷ text) (byte ∷ text) ∷ []
given_none byte text n =
    ap (λ ls. map given_for ls) (lines_none byte text n)
    ∙ ap (λ p. given_with p (byte ∷ text) ∷ []) (break_none (byte ∷ text) n)
