-- Two places after interim responses, in order.
use Rattle.std.proofs.Common.{◌≡◌, ◌⊎◌, ℕ, zero, suc, ◌<◌, ◌≤◌, true, IsFalse, List, refl, ap, sym, ◌∙◌, arith, subst, Ok, inl, inr}
use Rattle.std.proofs.Math.Nat.{eq-or-lt_of_le}
use Rattle.bg_http.specs.ResponseRules.{response_framing}
use Rattle.bg_http.specs.declared.request.Request.{Request}
use Rattle.bg_http.specs.declared.response.ResponseHead.{ResponseHead}
use Rattle.bg_http.specs.declared.response_rules.ResponseFraming.{ResponseFraming}
use Rattle.bg_http.specs.declared.response_rules.ResponseFraming.TheVariants as framing
use Rattle.bg_http_read.specs.Heads.{ReadsResponseHead, response_heads}
use Rattle.bg_http_read.specs.Responses.{JudgedResponse, SkipsInterim, names_another}
use Rattle.bg_http_read.proofs.HeadsFound.{one_head, response_laws}

-- the input begins with an interim response
abbrev pub IsInterim : Request → List ℕ → Type 0
IsInterim request input =
    (head : ResponseHead) × (next : List ℕ) × JudgedResponse request input head framing.Interim next

one_place : (request : Request) (count : ℕ) (input a b : List ℕ)
    → SkipsInterim request count input a → SkipsInterim request count input b → a ≡ b
one_place request zero input a b h k = sym h ∙ k
one_place request (suc count) input a b (before, head, skips, judged) (other, second, more, found) =
    let same = one_place request count input before other skips more in
    (one_head response_heads response_laws before head second a b judged.reads
    (subst (λ l. ReadsResponseHead l second b) (sym same) found.reads)).1

-- after any smaller number of interim responses there is another one
earlier : (request : Request) (few many : ℕ) (input b : List ℕ) → few < many
    → SkipsInterim request many input b
    → (a : List ℕ) × SkipsInterim request few input a × IsInterim request a
earlier request few zero input b less h = absurd (omega (arith, less))
earlier request few (suc many) input b less (before, head, skips, judged) =
    by_order (eq-or-lt_of_le below) (λ smaller. earlier request few many input before smaller skips)
  where
    below : few ≤ many
    below = omega (arith, less)

    by_order : (few ≡ many) ⊎ (few < many)
        → (few < many → (a : List ℕ) × SkipsInterim request few input a × IsInterim request a)
        → (a : List ℕ) × SkipsInterim request few input a × IsInterim request a
    by_order (inl e) rest =
        (before, subst (λ n. SkipsInterim request n input before) (sym e) skips, (head, b, judged))
    by_order (inr smaller) rest = rest smaller

pub compare : (one other : ℕ) → (one ≡ other) ⊎ ((one < other) ⊎ (other < one))
compare zero zero = inl refl
compare zero (suc other) = inr (inl (omega arith))
compare (suc one) zero = inr (inr (omega arith))
compare (suc one) (suc other) = next (compare one other)
  where
    next : (one ≡ other) ⊎ ((one < other) ⊎ (other < one))
        → (suc one ≡ suc other) ⊎ ((suc one < suc other) ⊎ (suc other < suc one))
    next (inl e) = inl (ap suc e)
    next (inr (inl h)) = inr (inl (omega (arith, h)))
    next (inr (inr h)) = inr (inr (omega (arith, h)))

pub interim_earlier : (request : Request) (few many : ℕ) (input a b : List ℕ) → few < many
    → SkipsInterim request few input a → SkipsInterim request many input b → IsInterim request a
interim_earlier request few many input a b less h k =
    let at = earlier request few many input b less k in
    subst (IsInterim request) (one_place request few input at.0 a at.1 h) at.2

-- two places are equal, or the first of them has an interim response
pub in_order : (request : Request) (one other : ℕ) (input a b : List ℕ)
    → SkipsInterim request one input a → SkipsInterim request other input b
    → (a ≡ b) ⊎ (IsInterim request a ⊎ IsInterim request b)
in_order request one other input a b h k = by_order (compare one other)
  where
    by_order : (one ≡ other) ⊎ ((one < other) ⊎ (other < one))
        → (a ≡ b) ⊎ (IsInterim request a ⊎ IsInterim request b)
    by_order (inl e) =
        inl (one_place request other input a b
        (subst (λ n. SkipsInterim request n input a) e h) k)
    by_order (inr (inl less)) =
        inr (inl (interim_earlier request one other input a b less h k))
    by_order (inr (inr less)) =
        inr (inr (interim_earlier request other one input b a less k h))

-- an input that begins with a final response's head doesn't begin with an interim response
pub final_or_interim : (request : Request) (input : List ℕ) (head : ResponseHead)
    (named : ResponseFraming) (after : List ℕ) → JudgedResponse request input head named after
    → IsFalse (names_another named) → IsInterim request input → ⊥
final_or_interim request input head named after h last (second, next, found) =
    let same = one_head response_heads response_laws input head second after next h.reads found.reads in
    let both : Ok named ≡ Ok framing.Interim =
    sym h.judged ∙ ap (response_framing request) same.0 ∙ found.judged in
    let is : named ≡ framing.Interim = cc in
    no_false (subst (λ n. IsFalse (names_another n)) is last)
  where
    no_false : IsFalse true → ⊥
    no_false e = cc
