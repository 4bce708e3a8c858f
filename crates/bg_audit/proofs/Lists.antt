-- Lists that a loop goes through.
use Rattle.std.proofs.Common.{◌≡◌, ◌≤◌, ◌<◌, ℕ, List, ◌++◌, length, map, take, drop, get_or, ◌∙◌, ap, arith}
use Rattle.std.proofs.lemmas.Option.{slice_get-get_or}
use Rattle.std.proofs.lemmas.List.{take_all, drop_all, append-nil}

-- after a loop over a whole list, each element has been changed
pub map-whole : {X : Type 0} (f : X → X) (xs items : List X) (n : ℕ) → items ≡ map f (take n xs) ++ drop n xs → length xs ≤ n → items ≡ map f xs
map-whole f xs items n done all = done ∙ ap (λ ys. map f ys ++ drop n xs) (take_all n xs all) ∙ ap (λ ys. map f xs ++ ys) (drop_all n xs all) ∙ append-nil (map f xs)

-- a vector whose elements were all written back
pub take-written : {X : Type 0} (xs items : List X) (len : ℕ) → length items ≡ length xs → length xs ≡ len → take len (items ++ drop (length items) xs) ≡ items
take-written xs items len same is =
    ap (λ ys. take len (items ++ ys)) (drop_all (length items) xs (omega arith)) ∙ ap (take len) (append-nil items) ∙ take_all len items (omega arith)

-- an element in the list doesn't depend on the default
pub get_or-any : {X : Type 0} (xs : List X) (i : ℕ) (d e : X) → i < length xs → get_or xs i d ≡ get_or xs i e
get_or-any xs i d e within =
    let one = slice_get-get_or xs i d within in
    let other = slice_get-get_or xs i e within in
    cc
