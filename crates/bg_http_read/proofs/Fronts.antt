-- The fronts of lists.
use Rattle.std.proofs.Common.{◌≡◌, ℕ, zero, suc, ◌≤◌, List, [], ◌∷◌, ◌++◌, length, take, drop, refl, ap, ap₂, sym, ◌∙◌, arith, append_assoc, take-append-drop, take_all, min}
use Rattle.std.proofs.lemmas.List.{take_min}

-- the front of a list that is long enough
pub prefix_of : (a b c d : List ℕ) → a ++ b ≡ c ++ d → length c ≤ length a
    → a ≡ c ++ drop (length c) a
prefix_of a b [] d e fits = refl
prefix_of [] b (x ∷ c) d e fits = absurd (omega arith)
prefix_of (y ∷ a) b (x ∷ c) d e fits =
    let heads : y ≡ x = cc in
    let tails : a ++ b ≡ c ++ d = cc in
    let front = prefix_of a b c d tails (omega arith) in
    cc

-- two fronts of a list are equal if they are equally long, and so are the rests
pub equal_front : (a b c d : List ℕ) → a ++ b ≡ c ++ d → length a ≡ length c → (a ≡ c) × (b ≡ d)
equal_front [] b [] d e same = (refl, e)
equal_front [] b (x ∷ c) d e same = absurd (omega arith)
equal_front (x ∷ a) b [] d e same = absurd (omega arith)
equal_front (x ∷ a) b (y ∷ c) d e same =
    let heads : x ≡ y = cc in
    let tails : a ++ b ≡ c ++ d = cc in
    let rest = equal_front a b c d tails (omega arith) in
    let fronts : x ∷ a ≡ y ∷ c = ap₂ (λ h t. h ∷ t) heads rest.0 in
    (fronts, rest.1)

-- bytes and more bytes are the first bytes and what follows them
pub front_more : (bytes more : List ℕ) (n : ℕ) → bytes ++ more ≡ take n bytes ++ (drop n bytes ++ more)
front_more bytes more n =
    ap (λ l. l ++ more) (sym (take-append-drop n bytes)) ∙ append_assoc (take n bytes) (drop n bytes) more

-- the first bytes, as many as fit
pub front_is : (bytes : List ℕ) (m most : ℕ) → m ≡ min (length bytes) most
    → take m bytes ≡ take most bytes
front_is bytes m most e =
    let same : m ≡ min most (length bytes) = omega (arith, e) in
    ap (λ n. take n bytes) same ∙ take_min most bytes

-- the first bytes stay the first bytes if more follow
pub front_grows : (bytes more : List ℕ) (most : ℕ)
    → (rest : List ℕ) × (take most (bytes ++ more) ≡ take most bytes ++ rest)
front_grows [] more most =
    let none : take most [] ≡ [] = take_all most [] (omega arith) in
    (take most more, ap (λ l. l ++ take most more) (sym none))
front_grows (x ∷ bytes) more zero = ([], refl)
front_grows (x ∷ bytes) more (suc most) =
    let rest = front_grows bytes more most in
    (rest.0, ap (λ l. x ∷ l) rest.1)
