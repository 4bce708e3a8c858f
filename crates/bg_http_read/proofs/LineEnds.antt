-- Within a line only its end matters, and after the end of a head no byte matters.
use Rattle.std.proofs.Common.{◌≡◌, ◌≤◌, ℕ, zero, suc, true, false, Bool, ◌==◌, if◌then◌else◌, List, [], ◌∷◌, length, drop, refl, ap, sym, ◌∙◌, arith}
use Rattle.std.proofs.lemmas.List.{drop_all}
use Rattle.memchr.specs.Find.{Nowhere, Passes, is_byte}
use Rattle.bg_http_read.specs.HeadEnds.{after_byte, after_bytes}
use Rattle.bg_http_read.specs.declared.head_end.HeadEnd.TheVariants as end

-- a byte that doesn't end a line
within : (x : ℕ) → ¬ ((x == 10) ≡ true) → after_byte end.Inside x ≡ end.Inside
within x h = either (x == 10) h
  where
    either : (t : Bool) → ¬ (t ≡ true) → (if t then end.LineStart else end.Inside) ≡ end.Inside
    either true h = absurd (h refl)
    either false h = refl

-- the bytes before the first line end change nothing
pub line_skipped : (n : ℕ) (xs : List ℕ) → n ≤ length xs → Nowhere (Passes (is_byte 10) xs) 0 n
    → after_bytes end.Inside (drop n xs) ≡ after_bytes end.Inside xs
line_skipped zero xs fits h = refl
line_skipped (suc n) [] fits h = refl
line_skipped (suc n) (x ∷ xs) fits h =
    let later : Nowhere (Passes (is_byte 10) xs) 0 n = λ k low high. h (suc k) (omega arith) (omega arith) in
    line_skipped n xs (omega arith) later
    ∙ ap (λ e. after_bytes e xs) (sym (within x (h 0 (omega arith) (omega arith))))

-- if no line ends, no byte changes anything
pub line_goes_on : (xs : List ℕ) → Nowhere (Passes (is_byte 10) xs) 0 (length xs)
    → end.Inside ≡ after_bytes end.Inside xs
line_goes_on xs h =
    ap (after_bytes end.Inside) (sym (drop_all (length xs) xs (omega arith)))
    ∙ line_skipped (length xs) xs (omega arith) h

-- no byte changes anything after the end
pub over_stays : (xs : List ℕ) → end.Over ≡ after_bytes end.Over xs
over_stays [] = refl
over_stays (x ∷ xs) = over_stays xs
