-- A Leave in the place of the Enter of each closed request.
use Rattle.std.proofs.Common.{◌≡◌, ◌+◌, ◌≤◌, ℕ, zero, suc, Bool, true, false, not, cond, ◌==◌, ◌&&◌, ◌||◌, nat_lt, List, [], ◌∷◌, ◌++◌, reverse, map, set, slice_get, Some, refl, arith, ap, sym, ◌∙◌}
use Rattle.std.proofs.lemmas.Bool.Decides.{nat_tests}
use Rattle.std.proofs.lemmas.Option.{same_Some}
use Rattle.bg_history.specs.declared.entry.Entry.{Entry}
use Rattle.bg_history.specs.declared.entry.Entry.TheVariants.{Enter, Leave}
use Rattle.bg_revisions.specs.declared.revision.Service.{Service}
use Rattle.bg_history.specs.Requests.{request_numbers}
use Rattle.bg_history.specs.Compacted.{is_among, bump, raised}
use Rattle.bg_history.specs.Compacting.{is_enter_of, as_left}
use Rattle.bg_history.specs.Sound.{has_entered, is_sound}
use Rattle.bg_history.proofs.Laying.{reverse-cons}
use Rattle.bg_history.proofs.Sound.{and_parts, itself, not_true}

-- how many Enters have that number
abbrev pub enters : ℕ → List Entry → ℕ
enters n [] = 0
enters n (e ∷ xs) = cond (is_enter_of n e) (1 + enters n xs) (enters n xs)

swap-test : (a b : ℕ) → (a == b) ≡ (b == a)
swap-test a b = grind (arith, nat_tests)

pub same-number : (a b : ℕ) → (a == b) ≡ true → a ≡ b
same-number a b is = grind (arith, nat_tests)

counted-once : (b : Bool) (m : ℕ) → cond b (1 + m) m ≤ 1 → 1 ≤ m → (b ≡ false) × (m ≤ 1)
counted-once true m le pos = absurd (omega arith)
counted-once false m le pos = (refl, le)

counted-none : (b : Bool) (m : ℕ) → cond b (1 + m) m ≡ 0 → (b ≡ false) × (m ≡ 0)
counted-none true m h = absurd (omega arith)
counted-none false m h = (refl, h)

-- no Enter has a number that no entry has
none-enters : (n : ℕ) (past : List Entry) → is_among (request_numbers past) n ≡ false → enters n past ≡ 0
none-enters n [] h = refl
none-enters n (Enter seat service number r port ∷ before) h = by (number == n) h (none-enters n before) where
  by : (b : Bool) → b || is_among (request_numbers before) n ≡ false → (is_among (request_numbers before) n ≡ false → enters n before ≡ 0)
      → cond b (1 + enters n before) (enters n before) ≡ 0
  by true h rest = absurd (cc)
  by false h rest = rest h
none-enters n (Leave seat number r ∷ before) h = by (number == n) h (none-enters n before) where
  by : (b : Bool) → b || is_among (request_numbers before) n ≡ false → (is_among (request_numbers before) n ≡ false → enters n before ≡ 0) → enters n before ≡ 0
  by true h rest = absurd (cc)
  by false h rest = rest h
none-enters n (e ∷ before) h = none-enters n before h

-- entries that may be compacted have one Enter of a number at most
pub enters-once : (seats n : ℕ) (past : List Entry) → is_sound seats past ≡ true → enters n past ≤ 1
enters-once seats n [] h = omega arith
enters-once seats n (Enter seat service number r port ∷ before) h =
    let part = and_parts (nat_lt seat seats && not (is_among (request_numbers before) number)) (is_sound seats before) h in
    let new = not_true (is_among (request_numbers before) number) (and_parts (nat_lt seat seats) (not (is_among (request_numbers before) number)) part.0).1 in
    by (number == n) refl (λ is. ap (is_among (request_numbers before)) (sym (same-number number n is)) ∙ new) (enters-once seats n before part.1) where
      by : (b : Bool) → (number == n) ≡ b → (b ≡ true → is_among (request_numbers before) n ≡ false) → enters n before ≤ 1 → cond b (1 + enters n before) (enters n before) ≤ 1
      by true is new rest = omega (arith, none-enters n before (new refl))
      by false is new rest = rest
enters-once seats n (Leave seat number r ∷ before) h = enters-once seats n before (and_parts _ (is_sound seats before) h).1
enters-once seats n (e ∷ before) h = enters-once seats n before h

enters-append : (n : ℕ) (xs ys : List Entry) → enters n (xs ++ ys) ≡ enters n xs + enters n ys
enters-append n [] ys = omega arith
enters-append n (e ∷ xs) ys = by (is_enter_of n e) (enters-append n xs ys) where
  by : (b : Bool) → enters n (xs ++ ys) ≡ enters n xs + enters n ys
      → cond b (1 + enters n (xs ++ ys)) (enters n (xs ++ ys)) ≡ cond b (1 + enters n xs) (enters n xs) + enters n ys
  by true h = omega (arith, h)
  by false h = h

pub enters-reverse : (n : ℕ) (xs : List Entry) → enters n (reverse xs) ≡ enters n xs
enters-reverse n [] = refl
enters-reverse n (e ∷ xs) =
    ap (enters n) (reverse-cons e xs) ∙ enters-append n (reverse xs) (e ∷ []) ∙ by (is_enter_of n e) (enters-reverse n xs) where
      by : (b : Bool) → enters n (reverse xs) ≡ enters n xs → enters n (reverse xs) + cond b (1 + 0) 0 ≡ cond b (1 + enters n xs) (enters n xs)
      by true h = omega (arith, h)
      by false h = omega (arith, h)

-- the Enters of other numbers stay when a number is added
same-map : (n : ℕ) (ns : List ℕ) (xs : List Entry) → enters n xs ≡ 0 → map (as_left (is_among (n ∷ ns))) xs ≡ map (as_left (is_among ns)) xs
same-map n ns [] h = refl
same-map n ns (Enter seat service number r port ∷ xs) h =
    let two = counted-none (number == n) (enters n xs) h in
    ap (λ b. cond (b || is_among ns number) (Leave seat number r) (Enter seat service number r port) ∷ map (as_left (is_among (n ∷ ns))) xs) (swap-test n number ∙ two.0)
    ∙ ap (λ t. as_left (is_among ns) (Enter seat service number r port) ∷ t) (same-map n ns xs two.1)
same-map n ns (e ∷ xs) h = ap (λ t. e ∷ t) (same-map n ns xs h)

same-entry : (n : ℕ) (ns : List ℕ) (e : Entry) → is_enter_of n e ≡ false → as_left (is_among (n ∷ ns)) e ≡ as_left (is_among ns) e
same-entry n ns (Enter seat service number r port) h =
    ap (λ b. cond (b || is_among ns number) (Leave seat number r) (Enter seat service number r port)) (swap-test n number ∙ h)
same-entry n ns e h = refl

same-raised : (n : ℕ) (ns : List ℕ) (past : List Entry) (closed : List ℕ) → enters n past ≡ 0 → raised (is_among (n ∷ ns)) past closed ≡ raised (is_among ns) past closed
same-raised n ns [] closed h = refl
same-raised n ns (Enter seat service number r port ∷ before) closed h =
    let two = counted-none (number == n) (enters n before) h in
    let rest = same-raised n ns before closed two.1 in
    ap (λ b. cond (b || is_among ns number) (bump seat (raised (is_among (n ∷ ns)) before closed)) (raised (is_among (n ∷ ns)) before closed)) (swap-test n number ∙ two.0)
    ∙ ap (λ t. cond (is_among ns number) (bump seat t) t) rest
same-raised n ns (e ∷ before) closed h = same-raised n ns before closed h

-- an Enter that was not replaced is the entry itself
pub not-replaced : (gone : ℕ → Bool) (e : Entry) (seat : ℕ) (service : Service) (number r port : ℕ) → as_left gone e ≡ Enter seat service number r port
    → (e ≡ Enter seat service number r port) × (gone number ≡ false)
not-replaced gone (Enter q s n k p) seat service number r port h = by (gone n) refl h where
  by : (b : Bool) → gone n ≡ b → cond b (Leave q n k) (Enter q s n k p) ≡ Enter seat service number r port
      → (Enter q s n k p ≡ Enter seat service number r port) × (gone number ≡ false)
  by true is h = absurd (cc)
  by false is h = let same : n ≡ number = cc in (h, ap gone (sym same) ∙ is)
not-replaced gone e seat service number r port h = absurd (cc)

enters-here : (gone : ℕ → Bool) (xs : List Entry) (j seat : ℕ) (service : Service) (number r port : ℕ)
    → slice_get (map (as_left gone) xs) j ≡ Some (Enter seat service number r port) → 1 ≤ enters number xs
enters-here gone [] j seat service number r port h = absurd (cc)
enters-here gone (x ∷ xs) zero seat service number r port h =
    let is = (not-replaced gone x seat service number r port (same_Some _ _ h)).0 in
    let here : is_enter_of number x ≡ true = ap (is_enter_of number) is ∙ itself number in
    by (is_enter_of number x) here where
      by : (b : Bool) → b ≡ true → 1 ≤ cond b (1 + enters number xs) (enters number xs)
      by true h = omega arith
      by false h = absurd (cc)
enters-here gone (x ∷ xs) (suc j) seat service number r port h = by (is_enter_of number x) (enters-here gone xs j seat service number r port h) where
  by : (b : Bool) → 1 ≤ enters number xs → 1 ≤ cond b (1 + enters number xs) (enters number xs)
  by true h = omega arith
  by false h = h

-- the Enter of a number replaced: those of one more number are replaced
pub replaced-once : (n : ℕ) (ns : List ℕ) (xs : List Entry) (j seat : ℕ) (service : Service) (r port : ℕ) → enters n xs ≤ 1
    → slice_get (map (as_left (is_among ns)) xs) j ≡ Some (Enter seat service n r port)
    → set (map (as_left (is_among ns)) xs) j (Leave seat n r) ≡ map (as_left (is_among (n ∷ ns))) xs
replaced-once n ns [] j seat service r port le h = absurd (cc)
replaced-once n ns (x ∷ xs) zero seat service r port le h =
    let is = (not-replaced (is_among ns) x seat service n r port (same_Some _ _ h)).0 in
    let here : is_enter_of n x ≡ true = ap (is_enter_of n) is ∙ itself n in
    let none = no-more (is_enter_of n x) (enters n xs) here le in
    ap (λ t. Leave seat n r ∷ t) (sym (same-map n ns xs none))
    ∙ ap (λ b. cond (b || is_among ns n) (Leave seat n r) (Enter seat service n r port) ∷ map (as_left (is_among (n ∷ ns))) xs) (sym (itself n))
    ∙ ap (λ e. as_left (is_among (n ∷ ns)) e ∷ map (as_left (is_among (n ∷ ns))) xs) (sym is) where
      no-more : (b : Bool) (m : ℕ) → b ≡ true → cond b (1 + m) m ≤ 1 → m ≡ 0
      no-more true m is le = omega arith
      no-more false m is le = absurd (cc)
replaced-once n ns (x ∷ xs) (suc j) seat service r port le h =
    let two = counted-once (is_enter_of n x) (enters n xs) le (enters-here (is_among ns) xs j seat service n r port h) in
    ap (λ t. as_left (is_among ns) x ∷ t) (replaced-once n ns xs j seat service r port two.1 h)
    ∙ ap (λ e. e ∷ map (as_left (is_among (n ∷ ns))) xs) (sym (same-entry n ns x two.0))

bump-swap : (i j : ℕ) (xs : List ℕ) → bump i (bump j xs) ≡ bump j (bump i xs)
bump-swap i j [] = refl
bump-swap zero zero (x ∷ xs) = refl
bump-swap zero (suc j) (x ∷ xs) = refl
bump-swap (suc i) zero (x ∷ xs) = refl
bump-swap (suc i) (suc j) (x ∷ xs) = ap (λ t. x ∷ t) (bump-swap i j xs)

not-entered : (seat n : ℕ) (past : List Entry) → enters n past ≡ 0 → has_entered seat n past ≡ false
not-entered seat n [] h = refl
not-entered seat n (Enter q service number r port ∷ before) h =
    let two = counted-none (number == n) (enters n before) h in
    by (q == seat) (number == n) two.0 (not-entered seat n before two.1) where
      by : (a b : Bool) → b ≡ false → has_entered seat n before ≡ false → (a && b) || has_entered seat n before ≡ false
      by a true is h = absurd (cc)
      by true false is h = h
      by false false is h = h
not-entered seat n (e ∷ before) h = not-entered seat n before h

-- the request of a number counted: those of one more number are counted
pub raised-once : (n : ℕ) (ns : List ℕ) (seat : ℕ) (past : List Entry) (closed : List ℕ) → enters n past ≤ 1 → has_entered seat n past ≡ true → is_among ns n ≡ false
    → bump seat (raised (is_among ns) past closed) ≡ raised (is_among (n ∷ ns)) past closed
raised-once n ns seat [] closed le has new = absurd (cc)
raised-once n ns seat (Enter q service number r port ∷ before) closed le has new =
    by (number == n) refl le has (λ le has. raised-once n ns seat before closed le has new) where
      its-seat : (a c : Bool) → (a && true) || c ≡ true → c ≡ false → a ≡ true
      its-seat true c h is = refl
      its-seat false c h is = absurd (cc)

      other : (a c : Bool) → (a && false) || c ≡ true → c ≡ true
      other true c h = h
      other false c h = h

      by-gone : (b : Bool) → bump seat (raised (is_among ns) before closed) ≡ raised (is_among (n ∷ ns)) before closed
          → bump seat (cond b (bump q (raised (is_among ns) before closed)) (raised (is_among ns) before closed))
          ≡ cond b (bump q (raised (is_among (n ∷ ns)) before closed)) (raised (is_among (n ∷ ns)) before closed)
      by-gone true h = bump-swap seat q (raised (is_among ns) before closed) ∙ ap (bump q) h
      by-gone false h = h

      by : (b : Bool) → (number == n) ≡ b → cond b (1 + enters n before) (enters n before) ≤ 1 → ((q == seat) && b) || has_entered seat n before ≡ true
          → (enters n before ≤ 1 → has_entered seat n before ≡ true → bump seat (raised (is_among ns) before closed) ≡ raised (is_among (n ∷ ns)) before closed)
          → bump seat (cond (is_among ns number) (bump q (raised (is_among ns) before closed)) (raised (is_among ns) before closed))
          ≡ cond ((n == number) || is_among ns number) (bump q (raised (is_among (n ∷ ns)) before closed)) (raised (is_among (n ∷ ns)) before closed)
      by true is le has rest =
          let none : enters n before ≡ 0 = omega arith in
          let same : q ≡ seat = same-number q seat (its-seat (q == seat) (has_entered seat n before) has (not-entered seat n before none)) in
          ap (λ k. bump seat (cond (is_among ns k) (bump q (raised (is_among ns) before closed)) (raised (is_among ns) before closed))) (same-number number n is)
          ∙ ap (λ b. bump seat (cond b (bump q (raised (is_among ns) before closed)) (raised (is_among ns) before closed))) new
          ∙ ap (λ i. bump i (raised (is_among ns) before closed)) (sym same)
          ∙ ap (bump q) (sym (same-raised n ns before closed none))
          ∙ ap (λ b. cond (b || is_among ns number) (bump q (raised (is_among (n ∷ ns)) before closed)) (raised (is_among (n ∷ ns)) before closed)) (sym (swap-test n number ∙ is))
      by false is le has rest =
          by-gone (is_among ns number) (rest le (other (q == seat) (has_entered seat n before) has))
          ∙ ap (λ b. cond (b || is_among ns number) (bump q (raised (is_among (n ∷ ns)) before closed)) (raised (is_among (n ∷ ns)) before closed)) (sym (swap-test n number ∙ is))
raised-once n ns seat (e ∷ before) closed le has new = raised-once n ns seat before closed le has new
