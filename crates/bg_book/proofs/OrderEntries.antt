-- Lemmas on the newest entries of a history.
use Rattle.std.proofs.Common.{◌≡◌, ◌<◌, ◌≤◌, ◌+◌, ◌-◌, ℕ, suc, List, [], ◌∷◌, ◌++◌, length, reverse, take, drop, get_or, slice_get, Some, arith, ap, sym, subst, ◌∙◌}
use Rattle.std.proofs.lemmas.List.{append_assoc, append-nil, drop_more, get_or-reverse, length-append}
use Rattle.std.proofs.lemmas.Option.{get_or_from_slice_get}
use Rattle.bg_history.specs.declared.entry.Entry.{Entry}
use Rattle.bg_history.specs.declared.entry.Entry.TheVariants.{Enter, Leave}
use Rattle.bg_history_laws.specs.Journaled.{journaled}

-- the entry at a place of the history, the oldest first, is the first one of what is left of the past
pub back_at : (past : List Entry) (back : ℕ) (e : Entry) → back < length past → slice_get (reverse past) (length past - 1 - back) ≡ Some e
    → drop back past ≡ e ∷ drop (back + 1) past
back_at past back e within at =
    let place : length past - 1 - back < length past = omega arith in
    let twice : length past - 1 - (length past - 1 - back) ≡ back = omega arith in
    let same : get_or past back e ≡ e
    = ap (λ i. get_or past i e) (sym twice) ∙ sym (get_or-reverse past (length past - 1 - back) e place)
    ∙ get_or_from_slice_get (reverse past) (length past - 1 - back) e e at in
    drop_more past back e within ∙ ap (λ x. x ∷ drop (back + 1) past) same

-- the first entries are these, and then the first ones of what is left
abbrev pub Taken : List Entry → ℕ → List Entry → List Entry → Type 0
Taken items count rest all = (items ++ take (count - length items) rest ≡ all) × (length items ≤ count)

one_more : (items : List Entry) (count : ℕ) (e : Entry) (rest all : List Entry) → length items < count → Taken items count (e ∷ rest) all → Taken (items ++ e ∷ []) count rest all
one_more items count e rest all room taken =
    let len : length (items ++ e ∷ []) ≡ length items + 1 = length-append items (e ∷ []) in
    let more : count - length items ≡ suc (count - length (items ++ e ∷ [])) = omega (arith, len) in (
      append_assoc items (e ∷ []) (take (count - length (items ++ e ∷ [])) rest) ∙ ap (λ n. items ++ take n (e ∷ rest)) (sym more) ∙ taken.0,
      omega (arith, len),
    )

none_more : (items : List Entry) (count : ℕ) (rest all : List Entry) → Taken items count rest all → Taken (items ++ []) count rest all
none_more items count rest all taken = subst (λ (l : List Entry). Taken l count rest all) (sym (append-nil items)) taken

-- the next entry is taken, if it is none of a request
pub next_taken : (items : List Entry) (count : ℕ) (e : Entry) (rest all : List Entry) → length items < count → Taken items count (journaled (e ∷ rest)) all
    → Taken (items ++ journaled (e ∷ [])) count (journaled rest) all
next_taken items count (Enter seat service number r port) rest all room taken = none_more items count (journaled rest) all taken
next_taken items count (Leave seat number r) rest all room taken = none_more items count (journaled rest) all taken
next_taken items count e rest all room taken = one_more items count e (journaled rest) all room taken
