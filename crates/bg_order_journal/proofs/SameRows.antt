-- Rows that have the same texts.
use Rattle.std.proofs.Common.{◌≡◌, true, List, [], ◌∷◌, map, string_bytes, refl, ap, ◌∙◌}
use Rattle.std.specs.Prelude.{String}
use Rattle.std.specs.Cmp.Lexicographic.{pointwise}
use Rattle.std.specs.String.{string_eq}
use Rattle.std.specs.declared.alloc.Global.{Global}
use Rattle.std.proofs.lemmas.Bool.{and_from, and_parts}
use Rattle.std.proofs.lemmas.Slice.Eq.{bytes_eq-Decides}

pub same_texts : (xs ys : List (String Global)) → pointwise string_eq xs ys ≡ true → map string_bytes xs ≡ map string_bytes ys
same_texts [] [] e = refl
same_texts [] (y ∷ ys) e = cc
same_texts (x ∷ xs) [] e = cc
same_texts (x ∷ xs) (y ∷ ys) e =
    let two = and_parts (string_eq x y) (pointwise string_eq xs ys) e in
    let first : string_bytes x ≡ string_bytes y = (bytes_eq-Decides (string_bytes x) (string_bytes y)).0 two.0 in
    ap (λ t. t ∷ map string_bytes xs) first ∙ ap (λ ts. string_bytes y ∷ ts) (same_texts xs ys two.1)

pub texts_same : (xs ys : List (String Global)) → map string_bytes xs ≡ map string_bytes ys → pointwise string_eq xs ys ≡ true
texts_same [] [] e = refl
texts_same [] (y ∷ ys) e = cc
texts_same (x ∷ xs) [] e = cc
texts_same (x ∷ xs) (y ∷ ys) e =
    let first : string_bytes x ≡ string_bytes y = cc in
    let rest : map string_bytes xs ≡ map string_bytes ys = cc in
    and_from (string_eq x y) (pointwise string_eq xs ys) ((bytes_eq-Decides (string_bytes x) (string_bytes y)).1 first) (texts_same xs ys rest)
