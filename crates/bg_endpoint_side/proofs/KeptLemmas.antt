-- Lists of connections that are kept, after one was taken out or put.
use Rattle.std.proofs.Common.{◌≡◌, ◌≢◌, ◌<◌, ◌≤◌, ◌+◌, ◌-◌, ◌==◌, ◌∙◌, ℕ, zero, suc, Bool, true, false, cond, not, List, [], ◌∷◌, ◌++◌, length, max, drop, take, slice_get, get_or, IfSome, position, find, refl, sym, ap, subst, arith, nat_lt, nat_le, Option, Some, None}
use Rattle.std.proofs.lemmas.Bool.{eqb-true, eqb-false, leb-false, lt-leb, ltb-true, ltb-false}
use Rattle.std.proofs.lemmas.List.Folds.{find_at}
use Rattle.std.proofs.lemmas.Option.{slice_get-get_or, slice_get_past}
use Rattle.std.specs.List.{AllByRecursion, position_or_len, remove}
use Rattle.bg_endpoint_side.specs.KeptLists.{AreInOrder, IsLastPlace, IsLater, IsNewest, IsPlace, has_key, in_front, is_idle_for, last_since, put_last, without_first}
use Rattle.bg_endpoint_side.specs.declared.kept_connections.KeptConnection.{KeptConnection}

-- what holds of each one holds of each that is left
pub each_left : (P : KeptConnection → Type 0) (xs : List KeptConnection) (i : ℕ) → AllByRecursion P xs
    → AllByRecursion P (remove xs i)
each_left P [] zero all = all
each_left P [] (suc i) all = all
each_left P (x ∷ xs) zero all = all.1
each_left P (x ∷ xs) (suc i) all = (all.0, each_left P xs i all.1)

pub order_left : (xs : List KeptConnection) (i : ℕ) → AreInOrder xs → AreInOrder (remove xs i)
order_left [] zero all = all
order_left [] (suc i) all = all
order_left (x ∷ xs) zero all = all.1
order_left (x ∷ xs) (suc i) all = (each_left (IsLater x) xs i all.0, order_left xs i all.1)

each_pushed : (P : KeptConnection → Type 0) (xs : List KeptConnection) (c : KeptConnection) → AllByRecursion P xs → P c
    → AllByRecursion P (xs ++ c ∷ [])
each_pushed P [] c all last = (last, all)
each_pushed P (x ∷ xs) c all last = (all.0, each_pushed P xs c all.1 last)

pub order_pushed : (xs : List KeptConnection) (c : KeptConnection) → AreInOrder xs
    → AllByRecursion (λ one. IsLater one c) xs → AreInOrder (xs ++ c ∷ [])
order_pushed [] c all later = (all, all)
order_pushed (x ∷ xs) c all later = (each_pushed (IsLater x) xs c all.0 later.0, order_pushed xs c all.1 later.1)

-- a list without the first connection that passes
without_at : (test : KeptConnection → Bool) (xs : List KeptConnection)
    → without_first test xs ≡ remove xs (position_or_len test xs)
without_at test [] = refl
without_at test (x ∷ xs) = go (without_at test xs) (test x) where
  go : without_first test xs ≡ remove xs (position_or_len test xs) → (b : Bool)
      → cond b xs (x ∷ without_first test xs) ≡ remove (x ∷ xs) (cond (not b) (1 + position_or_len test xs) 0)
  go others true = refl
  go others false =
      let more : suc (position_or_len test xs) ≡ 1 + position_or_len test xs = omega arith in
      ap (λ left. x ∷ left) others ∙ ap (remove (x ∷ xs)) more

-- where no connection passes, none is left out
past : (xs : List KeptConnection) (i : ℕ) → length xs ≤ i → remove xs i ≡ xs
past [] zero less = refl
past [] (suc i) less = refl
past (x ∷ xs) zero less = absurd (omega (arith, less))
past (x ∷ xs) (suc i) less = ap (λ left. x ∷ left) (past xs i (omega (arith, less)))

-- the place that is found is the first one
pub place_is : (test : KeptConnection → Bool) (xs : List KeptConnection) (r : Option ℕ) → r ≡ position test xs → IsPlace test xs r
place_is test xs r is = subst (IsPlace test xs) (sym is) (go (nat_lt (position_or_len test xs) (length xs)) refl) where
  go : (b : Bool) → nat_lt (position_or_len test xs) (length xs) ≡ b
      → IsPlace test xs (cond b (Some (position_or_len test xs)) None)
  go true e = (ltb-true _ _ e, find_at test xs, without_at test xs)
  go false e =
      let less = ltb-false _ _ e in
      (find_at test xs ∙ slice_get_past xs _ less, without_at test xs ∙ past xs _ less)

-- if the oldest connection is not idle for so long, none is
none_idle : (timeout now : ℕ) (x : KeptConnection) (xs : List KeptConnection) → is_idle_for timeout now x ≡ false
    → AllByRecursion (IsLater x) xs
    → (find (is_idle_for timeout now) xs ≡ None) × (without_first (is_idle_for timeout now) xs ≡ xs)
none_idle timeout now x [] not later = (refl, refl)
none_idle timeout now x (y ∷ ys) not later =
    let other = none_idle timeout now x ys not later.1 in
    let below = leb-false timeout (now - x.since) not in
    let order = later.0.order in
    let not_y : is_idle_for timeout now y ≡ false = lt-leb timeout (now - y.since) (omega arith) in (
      ap (λ b. cond b (Some y) (find (is_idle_for timeout now) ys)) not_y ∙ other.0,
      ap (λ b. cond b ys (y ∷ without_first (is_idle_for timeout now) ys)) not_y ∙ ap (λ left. y ∷ left) other.1,
    )

not_idle : (timeout now : ℕ) (x : KeptConnection) (xs : List KeptConnection) → nat_le timeout (now - x.since) ≡ false
    → AreInOrder (x ∷ xs) → IsPlace (is_idle_for timeout now) (x ∷ xs) None
not_idle timeout now x xs not order =
    let other = none_idle timeout now x xs not order.0 in (
      ap (λ b. cond b (Some x) (find (is_idle_for timeout now) xs)) not ∙ other.0,
      ap (λ b. cond b xs (x ∷ without_first (is_idle_for timeout now) xs)) not ∙ ap (λ left. x ∷ left) other.1,
    )

pub none_is_idle : (timeout now : ℕ) (xs : List KeptConnection) (d : KeptConnection) → 1 ≤ length xs
    → now - (get_or xs 0 d).since < timeout → AreInOrder xs → IsPlace (is_idle_for timeout now) xs None
none_is_idle timeout now [] d some less order = absurd (omega (arith, some))
none_is_idle timeout now (x ∷ xs) d some less order = not_idle timeout now x xs (lt-leb timeout (now - x.since) less) order

one_less : (y z : KeptConnection) (zs : List KeptConnection)
    → slice_get (z ∷ zs) (length (z ∷ zs) - 1) ≡ slice_get (y ∷ z ∷ zs) (length (y ∷ z ∷ zs) - 1)
one_less y z zs =
    let less : length (z ∷ zs) - 1 ≡ length zs = omega arith in
    let more : suc (length zs) ≡ length (y ∷ z ∷ zs) - 1 = omega arith in
    ap (slice_get (z ∷ zs)) less ∙ ap (slice_get (y ∷ z ∷ zs)) more

-- the last connection
pub last_at : (xs : List KeptConnection) (x : KeptConnection) → slice_get xs (length xs - 1) ≡ Some x → last_since xs ≡ x.since
last_at [] x is = absurd (cc)
last_at (y ∷ []) x is = cc
last_at (y ∷ z ∷ zs) x is = last_at (z ∷ zs) x (one_less y z zs ∙ is)

pub none_last : (xs : List KeptConnection) → slice_get xs (length xs - 1) ≡ None → last_since xs ≡ 0
none_last [] is = refl
none_last (y ∷ []) is = absurd (cc)
none_last (y ∷ z ∷ zs) is = none_last (z ∷ zs) (one_less y z zs ∙ is)

-- each connection is idle since the last one, or longer
no_later : (xs : List KeptConnection) → AreInOrder xs → AllByRecursion (λ one. one.since ≤ last_since xs) xs
no_later [] order = order
no_later (x ∷ []) order = (omega arith, order.0)
no_later (x ∷ y ∷ ys) order =
    let others = no_later (y ∷ ys) order.1 in
    let first = order.0.0.order in
    let next = others.0 in
    (omega arith, others)

-- without the connection of a key, each has another key
each_without : (P : KeptConnection → Type 0) (test : KeptConnection → Bool) (xs : List KeptConnection) → AllByRecursion P xs
    → AllByRecursion P (without_first test xs)
each_without P test [] all = all
each_without P test (x ∷ xs) all = go (each_without P test xs all.1) (test x) where
  go : AllByRecursion P (without_first test xs) → (b : Bool) → AllByRecursion P (cond b xs (x ∷ without_first test xs))
  go others true = all.1
  go others false = (all.0, others)

pub order_without : (test : KeptConnection → Bool) (xs : List KeptConnection) → AreInOrder xs → AreInOrder (without_first test xs)
order_without test [] all = all
order_without test (x ∷ xs) all = go (order_without test xs all.1) (test x) where
  go : AreInOrder (without_first test xs) → (b : Bool) → AreInOrder (cond b xs (x ∷ without_first test xs))
  go others true = all.1
  go others false = (each_without (IsLater x) test xs all.0, others)

others_of : (key : ℕ) (x : KeptConnection) (xs : List KeptConnection) → x.key ≡ key → AllByRecursion (IsLater x) xs
    → AllByRecursion (λ one. one.key ≢ key) xs
others_of key x [] same all = all
others_of key x (y ∷ ys) same all = (λ is. all.0.other (same ∙ sym is), others_of key x ys same all.1)

pub lacks : (key : ℕ) (xs : List KeptConnection) → AreInOrder xs
    → AllByRecursion (λ one. one.key ≢ key) (without_first (has_key key) xs)
lacks key [] order = order
lacks key (x ∷ xs) order = go (lacks key xs order.1) (x.key == key) refl where
  go : AllByRecursion (λ one. one.key ≢ key) (without_first (has_key key) xs) → (b : Bool) → (x.key == key) ≡ b
      → AllByRecursion (λ one. one.key ≢ key) (cond b xs (x ∷ without_first (has_key key) xs))
  go others true e = others_of key x xs (eqb-true _ _ e) order.0
  go others false e = (eqb-false _ _ e, others)

-- a connection that is put is later than the others
both_later : (key port now least : ℕ) (xs : List KeptConnection) → AllByRecursion (λ one. one.key ≢ key) xs
    → AllByRecursion (λ one. one.since ≤ least) xs
    → AllByRecursion (λ one. IsLater one (record { key = key; port = port; since = max now least })) xs
both_later key port now least [] others early = others
both_later key port now least (x ∷ xs) others early =
    let first = early.0 in
    (record { other = others.0; order = omega arith }, both_later key port now least xs others.1 early.1)

pub put_later : (key port now : ℕ) (left : List KeptConnection) → AllByRecursion (λ one. one.key ≢ key) left → AreInOrder left
    → AllByRecursion (λ one. IsLater one (put_last key port now left)) left
put_later key port now left gone order = both_later key port now (last_since left) left gone (no_later left order)

-- the last connection that passes is the newest one
split_at : (xs : List KeptConnection) (i : ℕ) (c : KeptConnection) → slice_get xs i ≡ Some c
    → xs ≡ take i xs ++ c ∷ drop (suc i) xs
split_at [] i c is = absurd (cc)
split_at (x ∷ xs) zero c is = cc
split_at (x ∷ xs) (suc i) c is = ap (λ left. x ∷ left) (split_at xs i c is)

pub newest_taken : (test : KeptConnection → Bool) (xs : List KeptConnection) (i : ℕ) (c : KeptConnection)
    → IsLastPlace test xs (Some i) → slice_get xs i ≡ Some c → IsNewest test xs c (remove xs i)
newest_taken test xs i c last is = record {
  before = take i xs;
  after = drop (suc i) xs;
  old_is = split_at xs i c is;
  left_is = refl;
  passes = go (slice_get xs i) is last.1;
  none_later = last.2;
} where
  go : (o : Option KeptConnection) → o ≡ Some c → IfSome o (λ one. test one ≡ true) → test c ≡ true
  go None e p = absurd (cc)
  go (Some d) e p = cc

-- a step towards the front
none_from : (test : KeptConnection → Bool) (xs : List KeptConnection) (i : ℕ) (d : KeptConnection) → i < length xs
    → AllByRecursion (λ one. test one ≡ false) (drop (suc i) xs) → test (get_or xs i d) ≡ false
    → AllByRecursion (λ one. test one ≡ false) (drop i xs)
none_from test [] i d less all not = absurd (omega (arith, less))
none_from test (x ∷ xs) zero d less all not = (not, all)
none_from test (x ∷ xs) (suc i) d less all not = none_from test xs i d (omega (arith, less)) all not

pub one_more : (test : KeptConnection → Bool) (xs : List KeptConnection) (j : ℕ) (d : KeptConnection) → 0 < j → j ≤ length xs
    → AllByRecursion (λ one. test one ≡ false) (drop j xs) → test (get_or xs (j - 1) d) ≡ false
    → (j - 1 ≤ length xs) × AllByRecursion (λ one. test one ≡ false) (drop (j - 1) xs)
one_more test xs j d some less all not =
    let next : j ≡ suc (j - 1) = omega (arith, some) in
    let behind = subst (λ n. AllByRecursion (λ one. test one ≡ false) (drop n xs)) next all in
    (omega (arith, less), none_from test xs (j - 1) d (omega (arith, some, less)) behind not)

pub last_found : (test : KeptConnection → Bool) (xs : List KeptConnection) (j : ℕ) (d : KeptConnection) → 0 < j → j ≤ length xs
    → AllByRecursion (λ one. test one ≡ false) (drop j xs) → test (get_or xs (j - 1) d) ≡ true
    → IsLastPlace test xs (Some (j - 1))
last_found test xs j d some less all passes =
    let next : j ≡ suc (j - 1) = omega (arith, some) in
    let inside : j - 1 < length xs = omega (arith, some, less) in
    let found = slice_get-get_or xs (j - 1) d inside in (
      inside,
      subst (λ o. IfSome o (λ one. test one ≡ true)) (sym found) passes,
      subst (λ n. AllByRecursion (λ one. test one ≡ false) (drop n xs)) next all,
    )

-- what holds of a connection and those after it holds of those after it
pub behind : (P : KeptConnection → Type 0) (o : Option KeptConnection) (xs : List KeptConnection)
    → AllByRecursion P (in_front o xs) → AllByRecursion P xs
behind P None xs all = all
behind P (Some x) xs all = all.1

pub fewer : (xs : List KeptConnection) (i : ℕ) → length (remove xs i) ≤ length xs
fewer [] zero = omega arith
fewer [] (suc i) = omega arith
fewer (x ∷ xs) zero = omega arith
fewer (x ∷ xs) (suc i) = let others = fewer xs i in omega arith
