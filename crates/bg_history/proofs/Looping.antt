-- One step of the loop that drops Leaves.
use Rattle.std.proofs.Common.{◌≡◌, ◌<◌, ◌+◌, ℕ, Bool, true, false, not, cond, ◌==◌, ◌||◌, List, [], ◌∷◌, ◌++◌, length, reverse, take, drop, map, filter, get_or, slice_get, Some, refl, arith, ap, sym, ◌∙◌}
use Rattle.std.proofs.lemmas.List.{get_or-drop, drop-drop, reverse-reverse}
use Rattle.bg_history.specs.declared.entry.Entry.{Entry}
use Rattle.bg_history.specs.declared.entry.Entry.TheVariants.{Enter, Leave}
use Rattle.bg_history.specs.Compacted.{left_numbers, is_among, without, thin, compacted}
use Rattle.bg_history.specs.Compacting.{is_leave, as_left, laid}
use Rattle.bg_history.proofs.Laying.{reverse-cons, reverse-more, get-at}
use Rattle.bg_history.proofs.Sound.{itself, or-right}

pub at-now : (xs ys : List Entry) (i : ℕ) (d : Entry) → i < length xs → length ys ≡ length xs → drop i ys ≡ drop i xs → slice_get ys i ≡ Some (get_or xs i d)
at-now xs ys i d lt len rest =
    let within : i < length ys = omega arith in
    let zero : i + 0 ≡ i = omega arith in
    let same : get_or ys i d ≡ get_or xs i d
    = ap (λ k. get_or ys k d) (sym zero) ∙ sym (get_or-drop i ys 0 d) ∙ ap (λ l. get_or l 0 d) rest ∙ get_or-drop i xs 0 d ∙ ap (λ k. get_or xs k d) zero in
    get-at ys i d within ∙ ap Some same

pub rest-now : (xs ys : List Entry) (i : ℕ) → drop i ys ≡ drop i xs → drop (i + 1) ys ≡ drop (i + 1) xs
rest-now xs ys i rest = sym (drop-drop 1 i ys) ∙ ap (drop 1) rest ∙ drop-drop 1 i xs

abbrev pub stay : List Entry → List Entry
stay past = filter (λ e. not (is_leave e)) past

stays : (e : Entry) (before : List Entry) → is_leave e ≡ false → thin (stay (e ∷ before)) ≡ laid e (thin (stay before))
stays (Leave seat number r) before h = absurd (cc)
stays e before h = refl

goes : (e : Entry) (before : List Entry) → is_leave e ≡ true → thin (stay (e ∷ before)) ≡ thin (stay before)
goes (Leave seat number r) before h = refl
goes e before h = absurd (cc)

-- a step in which the entry stays
pub step-stays : (xs : List Entry) (i : ℕ) (d : Entry) (kept : List Entry) → i < length xs → is_leave (get_or xs i d) ≡ false → kept ≡ reverse (thin (stay (reverse (take i xs))))
    → reverse (laid (get_or xs i d) (reverse kept)) ≡ reverse (thin (stay (reverse (take (i + 1) xs))))
step-stays xs i d kept lt is h =
    ap (λ k. reverse (laid (get_or xs i d) (reverse k))) h
    ∙ ap (λ k. reverse (laid (get_or xs i d) k)) (reverse-reverse (thin (stay (reverse (take i xs)))))
    ∙ ap reverse (sym (stays (get_or xs i d) (reverse (take i xs)) is))
    ∙ ap (λ p. reverse (thin (stay p))) (sym (reverse-more xs i d lt))

-- a step in which the entry is dropped
pub step-goes : (xs : List Entry) (i : ℕ) (d : Entry) → i < length xs → is_leave (get_or xs i d) ≡ true
    → reverse (thin (stay (reverse (take i xs)))) ≡ reverse (thin (stay (reverse (take (i + 1) xs))))
step-goes xs i d lt is =
    ap reverse (sym (goes (get_or xs i d) (reverse (take i xs)) is)) ∙ ap (λ p. reverse (thin (stay p))) (sym (reverse-more xs i d lt))

-- what stays is what belongs to no closed request
stay-without : (ns : List ℕ) (past : List Entry) → ((n : ℕ) → is_among (left_numbers past) n ≡ true → is_among ns n ≡ true)
    → stay (map (as_left (is_among ns)) past) ≡ without (is_among ns) past
stay-without ns [] h = refl
stay-without ns (Enter seat service number r port ∷ before) h = by (is_among ns number) (stay-without ns before h) where
  by : (b : Bool) → stay (map (as_left (is_among ns)) before) ≡ without (is_among ns) before
      → stay (cond b (Leave seat number r) (Enter seat service number r port) ∷ map (as_left (is_among ns)) before)
      ≡ cond (not b) (Enter seat service number r port ∷ without (is_among ns) before) (without (is_among ns) before)
  by true h = h
  by false h = ap (λ t. Enter seat service number r port ∷ t) h
stay-without ns (Leave seat number r ∷ before) h =
    stay-without ns before (λ n is. h n (or-right (number == n) (is_among (left_numbers before) n) is))
    ∙ ap (λ b. cond (not b) (Leave seat number r ∷ without (is_among ns) before) (without (is_among ns) before))
    (sym (h number (ap (λ b. b || is_among (left_numbers before) number) (itself number))))
stay-without ns (e ∷ before) h = ap (λ t. e ∷ t) (stay-without ns before h)

map-append : (f : Entry → Entry) (xs ys : List Entry) → map f (xs ++ ys) ≡ map f xs ++ map f ys
map-append f [] ys = refl
map-append f (x ∷ xs) ys = ap (λ t. f x ∷ t) (map-append f xs ys)

pub map-reverse : (f : Entry → Entry) (xs : List Entry) → reverse (map f xs) ≡ map f (reverse xs)
map-reverse f [] = refl
map-reverse f (x ∷ xs) =
    reverse-cons (f x) (map f xs) ∙ ap (λ t. t ++ f x ∷ []) (map-reverse f xs) ∙ sym (ap (map f) (reverse-cons x xs) ∙ map-append f (reverse xs) (x ∷ []))

pub stay-compacted : (xs : List Entry) → thin (stay (reverse (map (as_left (is_among (left_numbers (reverse xs)))) xs))) ≡ compacted (reverse xs)
stay-compacted xs =
    ap (λ p. thin (stay p)) (map-reverse (as_left (is_among (left_numbers (reverse xs)))) xs)
    ∙ ap thin (stay-without (left_numbers (reverse xs)) (reverse xs) (λ n is. is))
