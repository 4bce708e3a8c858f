-- What the elements say of the codings, one element at a time.
use Rattle.std.proofs.Common.{zero-add, min, arith, suc, ◌≡◌, ℕ, Bool, false, ◌+◌, ◌≤◌, length, List, [], ◌∷◌, fold, refl, ap, ◌∙◌}
use Rattle.std.specs.Prelude.{filter, not}
use Rattle.bg_http.specs.declared.codings.Codings.{Codings}
use Rattle.bg_http.specs.Codings.{is_chunked, is_empty, ends_in_chunked}
use Rattle.bg_http.specs.Held.{add_coding, no_codings}

-- whether the last element is `chunked`; the first argument if there is no element
last_of : Bool → List (List ℕ) → Bool
last_of l [] = l
last_of l (e ∷ es) = last_of (is_chunked e) es

last_of_some : (l : Bool) (e : List ℕ) (es : List (List ℕ)) → last_of l (e ∷ es) ≡ ends_in_chunked (e ∷ es)
unfolding last_of
last_of_some l e [] = refl
last_of_some l e (f ∷ es) = last_of_some (is_chunked e) f es

-- the elements that are not empty
abbrev pub filled : List (List ℕ) → List (List ℕ)
filled es = filter (λ e. not (is_empty e)) es

codings_from : (c : ℕ) (l : Bool) (es : List (List ℕ)) → c ≤ 2
    → fold add_coding (record { count = c; chunked_last = l }) es ≡ record { count = min (c + length (filled es)) 2; chunked_last = last_of l (filled es) }
unfolding last_of
codings_from c l [] le =
    let n : c ≡ min (c + 0) 2 = omega arith in
    let f : ℕ → Codings = λ n. record { count = n; chunked_last = l } in
    ap f n
codings_from c l ([] ∷ es) le = codings_from c l es le
codings_from c l ((b ∷ bs) ∷ es) le =
    let n : min (min (c + 1) 2 + length (filled es)) 2 ≡ min (c + suc (length (filled es))) 2 = omega arith in
    let f : ℕ → Codings = λ n. record { count = n; chunked_last = last_of (is_chunked (b ∷ bs)) (filled es) } in
    codings_from (min (c + 1) 2) (is_chunked (b ∷ bs)) es (omega arith) ∙ ap f n

last_is_end : (es : List (List ℕ)) → last_of false es ≡ ends_in_chunked es
unfolding last_of
last_is_end [] = refl
last_is_end (e ∷ es) = last_of_some false e es

-- the number of codings, up to two, and whether the last is `chunked`
pub codings_found : (es : List (List ℕ)) (found : Codings) → found ≡ fold add_coding no_codings es
    → (found.count ≡ min (length (filled es)) 2) × (found.chunked_last ≡ ends_in_chunked (filled es))
codings_found es found e =
    let all = e ∙ codings_from 0 false es (omega arith) in
    (ap (λ x. x.count) all ∙ ap (λ n. min n 2) (zero-add (length (filled es))), ap (λ x. x.chunked_last) all ∙ last_is_end (filled es))
