-- Seats of a book that was just opened are out, and seats on which requests were served are still all seats of their book.
use Rattle.std.proofs.Common.{◌≡◌, ℕ, suc, List, [], ◌∷◌, ◌++◌, length, take, ◌<◌, Some, true, refl, ap, ◌∙◌, arith, take_at}
use Rattle.std.specs.Prelude.{slice_get}
use Rattle.bg_ledger.specs.declared.holding.Holding.{Holding}
use Rattle.bg_rollout.specs.Gathering.{are_all, are_from, indices}
use Rattle.bg_event_loop.specs.Seats.{AllServed}
use Rattle.bg_forward.specs.Seats.{AllOut}
use Rattle.bg_ledger.specs.Holdings.{fresh}
use Rattle.bg_rollout.specs.Changes.{NewSeats}
use Rattle.std.proofs.lemmas.Option.{slice_get_within}

pub new_are_out : (count : ℕ) (seats : List Holding) → NewSeats count seats → AllOut seats
new_are_out count seats made i seat at =
    let within : i < length seats = slice_get_within seats i seat at in
    let below : i < count = omega (arith, within, made.count_is) in
    let is : slice_get seats i ≡ Some (fresh i) = made.each i below in
    let same : seat ≡ fresh i = cc in
    ap (λ (h : Holding). h.number) same

same_indices : (old new : List Holding) → length new ≡ length old
    → ((i : ℕ) (before after : Holding) → slice_get old i ≡ Some before → slice_get new i ≡ Some after → after.index ≡ before.index)
    → indices new ≡ indices old
same_indices [] [] e h = refl
same_indices [] (y ∷ ys) e h = absurd (omega arith)
same_indices (x ∷ xs) [] e h = absurd (omega arith)
same_indices (x ∷ xs) (y ∷ ys) e h =
    let head : y.index ≡ x.index = h 0 x y refl refl in
    let rest : indices ys ≡ indices xs = same_indices xs ys (omega arith) (λ i before after p q. h (suc i) before after p q) in
    ap (λ (n : ℕ). n ∷ indices ys) head ∙ ap (λ (l : List ℕ). x.index ∷ l) rest

-- the vector's seats, after they were borrowed as `old` and returned as `new`
pub still_all : (seats len : ℕ) (items old new rest : List Holding) → are_all seats items ≡ true → old ≡ items → len ≡ length items
    → AllServed old new → are_all seats (take len (new ++ rest)) ≡ true
still_all seats len items old new rest all same long worked =
    let as_many : length new ≡ length old = worked.as_many in
    let lent : length old ≡ length items = ap length same in
    let back : take len (new ++ rest) ≡ new = take_at new rest len (omega arith) in
    let kept : indices new ≡ indices old = same_indices old new as_many (λ i before after p q. (worked.each i before after p q).1.index) in
    ap (are_all seats) back ∙ (ap (are_from 0 seats) kept ∙ (ap (are_all seats) same ∙ all))
