-- One step of the loop that replaces the Enters of closed requests.
use Rattle.std.proofs.Common.{◌≡◌, ◌+◌, ◌<◌, ◌≤◌, ℕ, zero, suc, Bool, true, false, not, cond, ◌==◌, ◌&&◌, ◌||◌, nat_lt, List, [], ◌∷◌, ◌++◌, length, reverse, take, drop, sum, map, set, get_or, slice_get, Option, Some, None, refl, arith, ap, sym, subst, ◌∙◌}
use Rattle.std.specs.List.{list_any, position, position_or_len}
use Rattle.std.specs.Option.{unwrap_or}
use Rattle.std.proofs.lemmas.Bool.Decides.{nat_tests}
use Rattle.std.proofs.lemmas.Option.{same_Some}
use Rattle.std.proofs.lemmas.List.{get_or-map}
use Rattle.std.proofs.lemmas.List.Quantifiers.{position-Some}
use Rattle.std.proofs.lemmas.List.Sums.{sum_by-set}
use Rattle.std.proofs.lemmas.List.Sorted.{IsPermutation-reverse, list_any-IsPermutation}
use Rattle.bg_history.specs.declared.entry.Entry.{Entry}
use Rattle.bg_history.specs.declared.entry.Entry.TheVariants.{Tick, Enter, Leave}
use Rattle.bg_revisions.specs.declared.revision.Service.{Service}
use Rattle.bg_history.specs.Requests.{request_numbers, entered, given}
use Rattle.bg_history.specs.Compacted.{left_numbers, is_among, bump, raised}
use Rattle.bg_history.specs.Compacting.{is_enter_of, is_some_enter_of, as_left}
use Rattle.bg_history.specs.Sound.{has_entered, is_sound}
use Rattle.bg_history.proofs.Laying.{get-at, reverse-more, reverse-split}
use Rattle.bg_history.proofs.Looping.{map-reverse}
use Rattle.bg_history.proofs.Raised.{raised-length, bump-sum}
use Rattle.bg_history.proofs.Replacing.{enters, enters-once, enters-reverse, not-replaced, replaced-once, raised-once, same-number}
use Rattle.bg_history.proofs.Sound.{and_parts, itself, left-none, not_true, or-right, sound-part}

-- the numbers of the requests that left before that place
abbrev pub left_before : ℕ → List Entry → List ℕ
left_before i xs = left_numbers (reverse (take i xs))

sound-at : (n : ℕ) (xs : List Entry) (i : ℕ) (d : Entry) → i < length xs → is_sound n (reverse xs) ≡ true → is_sound n (get_or xs i d ∷ reverse (take i xs)) ≡ true
sound-at n xs i d lt h =
    sound-part n (reverse (drop (i + 1) xs)) (get_or xs i d ∷ reverse (take i xs)) (ap (is_sound n) (reverse-split xs i d lt) ∙ h)

-- an entry is replaced only after its place
not-yet : (n : ℕ) (e : Entry) (before : List Entry) → is_sound n (e ∷ before) ≡ true → as_left (is_among (left_numbers before)) e ≡ e
not-yet n (Enter seat service number r port) before h =
    let part = and_parts (nat_lt seat n && not (is_among (request_numbers before) number)) (is_sound n before) h in
    let new = not_true (is_among (request_numbers before) number) (and_parts (nat_lt seat n) (not (is_among (request_numbers before) number)) part.0).1 in
    ap (λ b. cond b (Leave seat number r) (Enter seat service number r port)) (left-none number before new)
not-yet n e before h = refl

pub entry-here : (n : ℕ) (xs : List Entry) (i : ℕ) (d : Entry) → i < length xs → is_sound n (reverse xs) ≡ true
    → get_or (map (as_left (is_among (left_before i xs))) xs) i d ≡ get_or xs i d
entry-here n xs i d lt h =
    get_or-map (as_left (is_among (left_before i xs))) xs i d d lt ∙ not-yet n (get_or xs i d) (reverse (take i xs)) (sound-at n xs i d lt h)

-- an entry that is no Leave adds no number
pub left-more : (xs : List Entry) (i : ℕ) (d e : Entry) → i < length xs → get_or xs i d ≡ e → left_before (i + 1) xs ≡ left_numbers (e ∷ reverse (take i xs))
left-more xs i d e lt is = ap left_numbers (reverse-more xs i d lt) ∙ ap (λ x. left_numbers (x ∷ reverse (take i xs))) is

-- the same of any entry that is no Leave
pub left-same : (xs : List Entry) (i : ℕ) (d e : Entry) → i < length xs → get_or xs i d ≡ e → ((seat number r : ℕ) → e ≡ Leave seat number r → ⊥) → left_before (i + 1) xs ≡ left_before i xs
left-same xs i d e lt is other = left-more xs i d e lt is ∙ by e other where
  by : (e : Entry) → ((seat number r : ℕ) → e ≡ Leave seat number r → ⊥) → left_numbers (e ∷ reverse (take i xs)) ≡ left_numbers (reverse (take i xs))
  by (Leave seat number r) other = absurd (other seat number r refl)
  by e other = refl

-- what the Leave of a request says of the entries before it
left-after : (n : ℕ) (xs : List Entry) (i : ℕ) (d : Entry) (seat number r : ℕ) → i < length xs → is_sound n (reverse xs) ≡ true → get_or xs i d ≡ Leave seat number r
    → (has_entered seat number (reverse (take i xs)) ≡ true) × (is_among (left_before i xs) number ≡ false)
left-after n xs i d seat number r lt h is =
    let p : List Entry = reverse (take i xs) in
    let sound : is_sound n (Leave seat number r ∷ p) ≡ true = ap (λ e. is_sound n (e ∷ p)) (sym is) ∙ sound-at n xs i d lt h in
    let part = and_parts (has_entered seat number p && not (is_among (left_numbers p) number)) (is_sound n p) sound in
    let two = and_parts (has_entered seat number p) (not (is_among (left_numbers p) number)) part.0 in
    (two.0, not_true (is_among (left_numbers p) number) two.1)

entered-later : (seat n : ℕ) (ys p : List Entry) → has_entered seat n p ≡ true → has_entered seat n (ys ++ p) ≡ true
entered-later seat n [] p h = h
entered-later seat n (Enter q service number r port ∷ ys) p h = or-right ((q == seat) && (number == n)) (has_entered seat n (ys ++ p)) (entered-later seat n ys p h)
entered-later seat n (e ∷ ys) p h = entered-later seat n ys p h

any-reverse : (p : Entry → Bool) (xs : List Entry) → list_any p (reverse xs) ≡ list_any p xs
any-reverse p xs = sym (list_any-IsPermutation p xs (reverse xs) (IsPermutation-reverse xs))

-- the Enter of an open request is there
still-there : (seat n : ℕ) (gone : ℕ → Bool) (past : List Entry) → has_entered seat n past ≡ true → gone n ≡ false → list_any (is_enter_of n) (map (as_left gone) past) ≡ true
still-there seat n gone [] h new = absurd (cc)
still-there seat n gone (Enter q service number r port ∷ before) h new =
    by (number == n) refl (q == seat) h (λ has. still-there seat n gone before has new) where
      by : (b : Bool) → (number == n) ≡ b → (a : Bool) → (a && b) || has_entered seat n before ≡ true
          → (has_entered seat n before ≡ true → list_any (is_enter_of n) (map (as_left gone) before) ≡ true)
          → list_any (is_enter_of n) (map (as_left gone) (Enter q service number r port ∷ before)) ≡ true
      by true is a has rest =
          ap (λ b. is_enter_of n (cond b (Leave q number r) (Enter q service number r port)) || list_any (is_enter_of n) (map (as_left gone) before))
          (ap gone (same-number number n is) ∙ new)
          ∙ ap (λ b. b || list_any (is_enter_of n) (map (as_left gone) before)) is
      by false is true has rest = or-right (is_enter_of n (as_left gone (Enter q service number r port))) (list_any (is_enter_of n) (map (as_left gone) before)) (rest has)
      by false is false has rest = or-right (is_enter_of n (as_left gone (Enter q service number r port))) (list_any (is_enter_of n) (map (as_left gone) before)) (rest has)
still-there seat n gone (Leave q number r ∷ before) h new = still-there seat n gone before h new
still-there seat n gone (e ∷ before) h new = still-there seat n gone before h new

pub enter-there : (n : ℕ) (xs : List Entry) (i : ℕ) (d : Entry) (seat number r : ℕ) → i < length xs → is_sound n (reverse xs) ≡ true → get_or xs i d ≡ Leave seat number r
    → list_any (is_enter_of number) (map (as_left (is_among (left_before i xs))) xs) ≡ true
enter-there n xs i d seat number r lt h is =
    let two = left-after n xs i d seat number r lt h is in
    let gone : ℕ → Bool = is_among (left_before i xs) in
    let p : List Entry = reverse (take i xs) in
    let all : has_entered seat number (reverse xs) ≡ true
    = ap (has_entered seat number) (sym (reverse-split xs i d lt))
    ∙ entered-later seat number (reverse (drop (i + 1) xs)) (get_or xs i d ∷ p) (ap (λ e. has_entered seat number (e ∷ p)) is ∙ two.0) in
    sym (any-reverse (is_enter_of number) (map (as_left gone) xs))
    ∙ ap (list_any (is_enter_of number)) (map-reverse (as_left gone) xs)
    ∙ still-there seat number gone (reverse xs) all two.1

abbrev is_enter_at : ℕ → ℕ → Entry → Bool
is_enter_at seat n (Enter q service number r port) = (q == seat) && (number == n)
is_enter_at seat n e = false

entered-any : (seat n : ℕ) (past : List Entry) → list_any (is_enter_at seat n) past ≡ has_entered seat n past
entered-any seat n [] = refl
entered-any seat n (Enter q service number r port ∷ before) = ap (λ t. ((q == seat) && (number == n)) || t) (entered-any seat n before)
entered-any seat n (e ∷ before) = entered-any seat n before

entered-at : (gone : ℕ → Bool) (xs : List Entry) (j seat : ℕ) (service : Service) (n r port : ℕ) → slice_get (map (as_left gone) xs) j ≡ Some (Enter seat service n r port)
    → list_any (is_enter_at seat n) xs ≡ true
entered-at gone [] j seat service n r port h = absurd (cc)
entered-at gone (x ∷ xs) zero seat service n r port h =
    ap (λ e. is_enter_at seat n e || list_any (is_enter_at seat n) xs) (not-replaced gone x seat service n r port (same_Some _ _ h)).0
    ∙ ap (λ b. (b && (n == n)) || list_any (is_enter_at seat n) xs) (itself seat)
    ∙ ap (λ b. b || list_any (is_enter_at seat n) xs) (itself n)
entered-at gone (x ∷ xs) (suc j) seat service n r port h = or-right (is_enter_at seat n x) (list_any (is_enter_at seat n) xs) (entered-at gone xs j seat service n r port h)

entered-below : (seats seat n : ℕ) (past : List Entry) → is_sound seats past ≡ true → has_entered seat n past ≡ true → seat < seats
entered-below seats seat n [] h has = absurd (cc)
entered-below seats seat n (Enter q service number r port ∷ before) h has =
    let part = and_parts (nat_lt q seats && not (is_among (request_numbers before) number)) (is_sound seats before) h in
    let lt = (and_parts (nat_lt q seats) (not (is_among (request_numbers before) number)) part.0).0 in
    by (q == seat) refl (number == n) lt has (entered-below seats seat n before part.1) where
      by : (a : Bool) → (q == seat) ≡ a → (b : Bool) → nat_lt q seats ≡ true → (a && b) || has_entered seat n before ≡ true → (has_entered seat n before ≡ true → seat < seats) → seat < seats
      by true is b lt has rest = let same : q ≡ seat = same-number q seat is in grind (arith, nat_tests)
      by false is b lt has rest = rest has
entered-below seats seat n (Leave q number r ∷ before) h has = entered-below seats seat n before (and_parts _ (is_sound seats before) h).1 has
entered-below seats seat n (e ∷ before) h has = entered-below seats seat n before h has

-- the counts stay below the number of requests
sound-sum : (gone : ℕ → Bool) (closed : List ℕ) (past : List Entry) → is_sound (length closed) past ≡ true → sum (raised gone past closed) ≤ entered past + sum closed
sound-sum gone closed [] h = omega arith
sound-sum gone closed (Enter seat service number r port ∷ before) h =
    let part = and_parts (nat_lt seat (length closed) && not (is_among (request_numbers before) number)) (is_sound (length closed) before) h in
    let two = and_parts (nat_lt seat (length closed)) (not (is_among (request_numbers before) number)) part.0 in
    let in_range : nat_lt seat (length closed) ≡ true = two.0 in
    let len : length (raised gone before closed) ≡ length closed = raised-length gone before closed in
    let lt : seat < length (raised gone before closed) = grind (arith, nat_tests) in
    go (gone number) (bump-sum seat (raised gone before closed) lt) (sound-sum gone closed before part.1) where
      go : (b : Bool) → sum (bump seat (raised gone before closed)) ≡ sum (raised gone before closed) + 1 → sum (raised gone before closed) ≤ entered before + sum closed
          → sum (cond b (bump seat (raised gone before closed)) (raised gone before closed)) ≤ (1 + entered before) + sum closed
      go true more rest = omega (arith, more, rest)
      go false more rest = omega (arith, rest)
sound-sum gone closed (Leave seat number r ∷ before) h = sound-sum gone closed before (and_parts _ (is_sound (length closed) before) h).1
sound-sum gone closed (e ∷ before) h = sound-sum gone closed before h

part-of-sum : (xs : List ℕ) (i d : ℕ) → i < length xs → get_or xs i d ≤ sum xs
part-of-sum xs i d lt = omega (arith, sum_by-set (λ (x : ℕ). x) xs i 0 d lt)

any-found : (p : Entry → Bool) (xs : List Entry) → list_any p xs ≡ true → position_or_len p xs < length xs
any-found p [] h = absurd (cc)
any-found p (x ∷ xs) h = by (p x) h (any-found p xs) where
  by : (b : Bool) → b || list_any p xs ≡ true → (list_any p xs ≡ true → position_or_len p xs < length xs) → cond (not b) (1 + position_or_len p xs) 0 < length (x ∷ xs)
  by true h rest = omega arith
  by false h rest = omega (arith, rest h)

-- the first Enter of a number is one of that number
pub first-found : (n : ℕ) (xs : List Entry) (latest : ℕ) → list_any (is_enter_of n) xs ≡ true
    → is_some_enter_of n (slice_get xs (unwrap_or (position (is_enter_of n) xs) latest)) ≡ true
first-found n xs latest h =
    let at : ℕ = position_or_len (is_enter_of n) xs in
    let lt : position_or_len (is_enter_of n) xs < length xs = any-found (is_enter_of n) xs h in
    let test : nat_lt (position_or_len (is_enter_of n) xs) (length xs) ≡ true = grind (arith, nat_tests) in
    let some : position (is_enter_of n) xs ≡ Some at = ap (λ b. cond b (Some at) None) test in
    ap (λ o. is_some_enter_of n (slice_get xs (unwrap_or o latest))) some
    ∙ ap (is_some_enter_of n) (get-at xs at (Tick 0) lt)
    ∙ (position-Some (is_enter_of n) xs at (Tick 0) some).1

-- an Enter of that number
pub record EnterOf (number : ℕ) (o : Option Entry) : Type 0 where
  pub seat : ℕ
  pub service : Service
  pub revision : ℕ
  pub port : ℕ
  pub is : o ≡ Some (Enter seat service number revision port)

pub enter-of : (number : ℕ) (o : Option Entry) → is_some_enter_of number o ≡ true → EnterOf number o
enter-of number None h = absurd (cc)
enter-of number (Some (Enter seat service n r port)) h =
    record { seat = seat; service = service; revision = r; port = port; is = ap (λ k. Some (Enter seat service k r port)) (same-number n number h) }
enter-of number (Some e) h = absurd (cc)

-- what a replaced Enter adds
pub record Closes (closed : List ℕ) (xs : List Entry) (i j seat number r : ℕ) : Type 0 where
  pub entries : set (map (as_left (is_among (left_before i xs))) xs) j (Leave seat number r) ≡ map (as_left (is_among (left_before (i + 1) xs))) xs
  pub counts : bump seat (raised (is_among (left_before i xs)) (reverse xs) closed) ≡ raised (is_among (left_before (i + 1) xs)) (reverse xs) closed
  pub within : seat < length (raised (is_among (left_before i xs)) (reverse xs) closed)
  pub fits : get_or (raised (is_among (left_before i xs)) (reverse xs) closed) seat 0 + 1 ≤ given closed (reverse xs)

pub closes : (closed : List ℕ) (xs : List Entry) (i : ℕ) (d : Entry) (q number k j seat : ℕ) (service : Service) (r port : ℕ) → i < length xs
    → is_sound (length closed) (reverse xs) ≡ true → get_or xs i d ≡ Leave q number k
    → slice_get (map (as_left (is_among (left_before i xs))) xs) j ≡ Some (Enter seat service number r port) → Closes closed xs i j seat number r
closes closed xs i d q number k j seat service r port lt sound is at =
    let ns : List ℕ = left_before i xs in
    let now : left_before (i + 1) xs ≡ number ∷ ns = left-more xs i d (Leave q number k) lt is in
    let new = (left-after (length closed) xs i d q number k lt sound is).1 in
    let once : enters number (reverse xs) ≤ 1 = enters-once (length closed) number (reverse xs) sound in
    let once_old : enters number xs ≤ 1 = omega (arith, once, enters-reverse number xs) in
    let has : has_entered seat number (reverse xs) ≡ true
    = sym (entered-any seat number (reverse xs)) ∙ any-reverse (is_enter_at seat number) xs ∙ entered-at (is_among ns) xs j seat service number r port at in
    let below : seat < length closed = entered-below (length closed) seat number (reverse xs) sound has in
    let len : length (raised (is_among ns) (reverse xs) closed) ≡ length closed = raised-length (is_among ns) (reverse xs) closed in
    let within : seat < length (raised (is_among ns) (reverse xs) closed) = omega arith in
    let counts : bump seat (raised (is_among ns) (reverse xs) closed) ≡ raised (is_among (number ∷ ns)) (reverse xs) closed
    = raised-once number ns seat (reverse xs) closed once has new in
    record {
      entries = replaced-once number ns xs j seat service r port once_old at ∙ ap (λ l. map (as_left (is_among l)) xs) (sym now);
      counts = counts ∙ ap (λ l. raised (is_among l) (reverse xs) closed) (sym now);
      within = within;
      fits = omega (
        arith,
        part-of-sum (raised (is_among ns) (reverse xs) closed) seat 0 within,
        bump-sum seat (raised (is_among ns) (reverse xs) closed) within,
        ap sum counts,
        sound-sum (is_among (number ∷ ns)) closed (reverse xs) sound,
      );
    }

-- the same, where the entry at the Leave's place is read from the entries as they are
pub closes-here : (closed : List ℕ) (xs : List Entry) (i : ℕ) (d : Entry) (q number k j : ℕ) → i < length xs
    → is_sound (length closed) (reverse xs) ≡ true → get_or (map (as_left (is_among (left_before i xs))) xs) i d ≡ Leave q number k
    → is_some_enter_of number (slice_get (map (as_left (is_among (left_before i xs))) xs) j) ≡ true
    → (seat : ℕ) (service : Service) (n r port : ℕ)
    → slice_get (map (as_left (is_among (left_before i xs))) xs) j ≡ Some (Enter seat service n r port) → Closes closed xs i j seat n r
closes-here closed xs i d q number k j lt sound is there seat service n r port at =
    let same : n ≡ number = same-number n number (sym (ap (is_some_enter_of number) at) ∙ there) in
    subst (λ m. Closes closed xs i j seat m r) (sym same)
    (closes closed xs i d q number k j seat service r port lt sound (sym (entry-here (length closed) xs i d lt sound) ∙ is) (at ∙ ap (λ m. Some (Enter seat service m r port)) same))

-- before the first step nothing is replaced
pub none-replaced : (xs : List Entry) → map (as_left (is_among [])) xs ≡ xs
none-replaced [] = refl
none-replaced (Enter seat service number r port ∷ xs) = ap (λ t. Enter seat service number r port ∷ t) (none-replaced xs)
none-replaced (e ∷ xs) = ap (λ t. e ∷ t) (none-replaced xs)

pub none-raised : (past : List Entry) (closed : List ℕ) → raised (is_among []) past closed ≡ closed
none-raised [] closed = refl
none-raised (Enter seat service number r port ∷ before) closed = none-raised before closed
none-raised (e ∷ before) closed = none-raised before closed
