-- Seats in order of index.
use Rattle.std.proofs.Common.{◌≡◌, ℕ, zero, suc, ◌+◌, ◌<◌, Bool, true, false, cond, ◌==◌, nat_lt, List, [], ◌∷◌, ◌++◌, length, slice_get, get_or, Some, None, refl, sym, ap, ◌∙◌, subst, arith, length-append}
use Rattle.std.proofs.lemmas.Bool.Decides.{nat_tests}
use Rattle.std.proofs.lemmas.Option.{slice_get-get_or, slice_get_within, same_Some}
use Rattle.bg_ledger.specs.declared.holding.Holding.{Holding}
use Rattle.bg_ledger.specs.Holdings.{fresh}
use Rattle.bg_rollout.specs.declared.fault.GatherFault.TheVariants.{StillIn, WrongSeats}
use Rattle.bg_rollout.specs.Changes.{NewSeats}
use Rattle.bg_rollout.specs.Gathering.{indices, are_from, are_all, still_in, gather_fault}
use Rattle.bg_rollout.proofs.OpenRequests.Requests.{and_parts, and_both, eq_from, eq_refl}

-- each seat is at its index, counted from i
pub each_from : (i count : ℕ) (seats : List Holding) → i + length seats ≡ count → ((k : ℕ) (s : Holding) → slice_get seats k ≡ Some s → s.index ≡ i + k)
    → are_from i count (indices seats) ≡ true
each_from i count [] len each = let e : i ≡ count = omega (arith, len) in ap (λ (n : ℕ). i == n) (sym e) ∙ eq_refl i
each_from i count (s ∷ rest) len each =
    let here : s.index ≡ i = omega (arith, each 0 s refl) in
    and_both (s.index == i) (are_from (i + 1) count (indices rest)) (ap (λ (n : ℕ). n == i) here ∙ eq_refl i)
    (each_from (i + 1) count rest (omega (arith, len)) (λ k t h. omega (arith, each (suc k) t h)))

pub count_from : (i count : ℕ) (seats : List Holding) → are_from i count (indices seats) ≡ true → i + length seats ≡ count
count_from i count [] h = omega (arith, eq_from i count h)
count_from i count (s ∷ rest) h =
    omega (arith, count_from (i + 1) count rest (and_parts (s.index == i) (are_from (i + 1) count (indices rest)) h).1)

pub from_each : (i count : ℕ) (seats : List Holding) → are_from i count (indices seats) ≡ true → (k : ℕ) (s : Holding) → slice_get seats k ≡ Some s → s.index ≡ i + k
from_each i count [] h k s get = absurd (cc)
from_each i count (t ∷ rest) h zero s get =
    let both = and_parts (t.index == i) (are_from (i + 1) count (indices rest)) h in
    omega (arith, sym (ap (λ (w : Holding). w.index) (same_Some t s get)), eq_from t.index i both.0)
from_each i count (t ∷ rest) h (suc k) s get =
    let both = and_parts (t.index == i) (are_from (i + 1) count (indices rest)) h in
    omega (arith, from_each (i + 1) count rest both.1 k s get)

-- a test that fails
pub fails : (b : Bool) → (b ≡ true → ⊥) → b ≡ false
fails true h = absurd (h refl)
fails false h = refl

out_here : (s : Holding) → s.number ≡ 0 → nat_lt 0 s.number ≡ false
out_here s e = grind (arith, nat_tests)

-- no seat holds a request
pub none_in : (seats : List Holding) → ((k : ℕ) (s : Holding) → slice_get seats k ≡ Some s → s.number ≡ 0) → still_in seats ≡ None
none_in [] out = refl
none_in (s ∷ rest) out =
    ap (λ b. cond b (Some (StillIn s.index)) (still_in rest)) (out_here s (out 0 s refl)) ∙ none_in rest (λ k t h. out (suc k) t h)

-- the seat at a place holds a request, and no seat before it does
pub first_at : (seats : List Holding) (p : ℕ) (s : Holding) → slice_get seats p ≡ Some s → nat_lt 0 s.number ≡ true
    → ((k : ℕ) (t : Holding) → k < p → slice_get seats k ≡ Some t → t.number ≡ 0) → still_in seats ≡ Some (StillIn s.index)
first_at [] p s get held_open out = absurd (cc)
first_at (t ∷ rest) zero s get held_open out =
    ap (λ (w : Holding). cond (nat_lt 0 w.number) (Some (StillIn w.index)) (still_in rest)) (same_Some t s get)
    ∙ ap (λ b. cond b (Some (StillIn s.index)) (still_in rest)) held_open
first_at (t ∷ rest) (suc p) s get held_open out =
    ap (λ b. cond b (Some (StillIn t.index)) (still_in rest)) (out_here t (out 0 t (omega arith) refl))
    ∙ first_at rest p s get held_open (λ k u h e. out (suc k) u (omega (arith, h)) e)

-- if no seat with a request is found, no seat holds one
pub all_out : (seats : List Holding) → still_in seats ≡ None → (k : ℕ) (s : Holding) → slice_get seats k ≡ Some s → s.number ≡ 0
all_out [] none k s get = absurd (cc)
all_out (t ∷ rest) none k s get = go (λ h. all_out rest h) (nat_lt 0 t.number) refl none k get where
  go : (still_in rest ≡ None → (k : ℕ) (s : Holding) → slice_get rest k ≡ Some s → s.number ≡ 0)
      → (b : Bool) → nat_lt 0 t.number ≡ b → cond b (Some (StillIn t.index)) (still_in rest) ≡ None → (k : ℕ) → slice_get (t ∷ rest) k ≡ Some s → s.number ≡ 0
  go later true e none k get = absurd (cc)
  go later false e none zero get = let zero_here : t.number ≡ 0 = grind (arith, nat_tests) in sym (ap (λ (w : Holding). w.number) (same_Some t s get)) ∙ zero_here
  go later false e none (suc k) get = later none k s get

-- the seat at a place
pub at_place : (seats : List Holding) (k : ℕ) (s : Holding) → s ≡ get_or seats k s → k < length seats → slice_get seats k ≡ Some s
at_place seats k s is h = slice_get-get_or seats k s h ∙ ap Some (sym is)

-- a fact of the seats before a place and of the seat at it holds of all seats up to that place
pub one_more : (P : ℕ → Holding → Type 0) (seats : List Holding) (n : ℕ) (s : Holding) → slice_get seats n ≡ Some s → P n s
    → ((k : ℕ) (t : Holding) → k < n → slice_get seats k ≡ Some t → P k t)
    → (k : ℕ) (t : Holding) → k < n + 1 → slice_get seats k ≡ Some t → P k t
one_more P seats n s get here before k t h found = go (k == n) refl where
  go : (b : Bool) → (k == n) ≡ b → P k t
  go true e =
      let same : k ≡ n = eq_from k n e in
      let seat : s ≡ t = same_Some s t (sym get ∙ ap (λ (m : ℕ). slice_get seats m) (sym same) ∙ found) in
      subst (λ (m : ℕ). P m t) (sym same) (subst (λ (u : Holding). P n u) seat here)
  go false e = before k t (grind (arith, nat_tests)) found

-- seats that can be gathered
pub gathers : (n : ℕ) (seats : List Holding) → gather_fault n seats ≡ None → (are_all n seats ≡ true) × (still_in seats ≡ None)
gathers n seats none = go (are_all n seats) none where
  go : (b : Bool) → cond b (still_in seats) (Some WrongSeats) ≡ None → (b ≡ true) × (still_in seats ≡ None)
  go true h = (refl, h)
  go false h = absurd (cc)

pub gathered : (n : ℕ) (seats : List Holding) → are_all n seats ≡ true → ((k : ℕ) (s : Holding) → slice_get seats k ≡ Some s → s.number ≡ 0) → gather_fault n seats ≡ None
gathered n seats all out = ap (λ b. cond b (still_in seats) (Some WrongSeats)) all ∙ none_in seats out

-- new seats are in order
pub new_in_order : (n : ℕ) (seats : List Holding) → NewSeats n seats → are_all n seats ≡ true
new_in_order n seats new =
    each_from 0 n seats (omega (arith, new.count_is))
    (λ k s get. omega (arith, ap (λ (w : Holding). w.index) (same_Some s (fresh k) (sym get ∙ new.each k (omega (arith, slice_get_within seats k s get, new.count_is))))))

-- an element with others before and after it
get_mid : (xs rest : List Holding) (x : Holding) → slice_get ((xs ++ x ∷ []) ++ rest) (length xs) ≡ Some x
get_mid [] rest x = refl
get_mid (y ∷ xs) rest x = get_mid xs rest x

pub get_end : (all now xs rest : List Holding) (x : Holding) → all ≡ now ++ rest → now ≡ xs ++ x ∷ [] → slice_get all (length xs) ≡ Some x
get_end all now xs rest x whole end =
    ap (λ (zs : List Holding). slice_get zs (length xs)) (whole ∙ ap (λ (zs : List Holding). zs ++ rest) end) ∙ get_mid xs rest x

pub length_end : (all now xs rest : List Holding) (x : Holding) → all ≡ now ++ rest → now ≡ xs ++ x ∷ [] → length all ≡ length xs + 1 + length rest
length_end all now xs rest x whole end =
    omega (arith, ap length whole, ap length end, length-append now rest, length-append xs (x ∷ []))
