-- What calls make of the seats and of the clients that wait.
use Rattle.std.proofs.Common.{◌≡◌, ◌∙◌, ◌+◌, ℕ, Bool, true, false, cond, List, [], ◌∷◌, ◌++◌, length, sym, ap, subst, arith, append-nil, append_assoc, nat_lt, Some, None}
use Rattle.bg_client_side.proofs.SeatLemmas.{order_append, order_front, order_left, order_same, order_through, times_append, times_left}
use Rattle.bg_client_side.specs.SeatRuns.{KeepsOrder, NoneIsLost, NoneOvertakes, SeatCall, SeatCalls, SeatsLeaveOnce, SeatsStay, enters, entered_by, entered_in, if_true, leaves, left_by, left_in, taken_by, taken_in, times, waited_by, waited_in, waits, withdrawn_by, withdrawn_in, withdraws}
use Rattle.bg_client_side.specs.Seating.{Seating, has, without}

-- what one call makes of a number: of seats that are free and taken, and of keys that wait
record Step (number : ℕ) (old : Seating) (call : SeatCall) (new : Seating) : Type 0 where
  stay : times number new.free + times number new.taken ≡ times number old.free + times number old.taken
  once : times number old.taken + times number (taken_by call) ≡ times number (left_by call) + times number new.taken
  none_lost : times number old.waiting + times number (waited_by call)
      ≡ times number (entered_by call) + times number (withdrawn_by call) + times number new.waiting

step : (number : ℕ) (old new : Seating) (call : SeatCall) → SeatCalls old call new → Step number old call new
step number old new (waits key waited) is =
    let free = ap (λ (s : Seating). times number s.free) is.1 in
    let taken = ap (λ (s : Seating). times number s.taken) is.1 in
    let waiting = ap (λ (s : Seating). times number s.waiting) is.1 ∙ go (nat_lt (length old.waiting) old.most) in
    let by = ap (λ b. times number (if_true b key)) is.0 in
    record { stay = omega (arith, free, taken); once = omega (arith, taken); none_lost = omega (arith, waiting, by) } where
      go : (b : Bool) → times number (cond b (old.waiting ++ key ∷ []) old.waiting) ≡ times number old.waiting + times number (if_true b key)
      go true = times_append number old.waiting (key ∷ [])
      go false = omega arith
step number old new (enters None) is =
    let free = ap (λ (s : Seating). times number s.free) is in
    let taken = ap (λ (s : Seating). times number s.taken) is in
    let waiting = ap (λ (s : Seating). times number s.waiting) is in
    record { stay = omega (arith, free, taken); once = omega (arith, taken); none_lost = omega (arith, waiting) }
step number old new (enters (Some entered)) is =
    let free = ap (times number) is.was_free in
    let taken = ap (times number) is.is_taken ∙ times_append number old.taken (entered.seat ∷ []) in
    let waiting = ap (times number) is.waited in
    record { stay = omega (arith, free, taken); once = omega (arith, taken); none_lost = omega (arith, waiting) }
step number old new (leaves seat left) is =
    let free = ap (λ (s : Seating). times number s.free) is.1 ∙ go (has seat old.taken) in
    let taken = ap (λ (s : Seating). times number s.taken) is.1 in
    let waiting = ap (λ (s : Seating). times number s.waiting) is.1 in
    let before = times_left number seat old.taken in
    let by = ap (λ b. times number (if_true b seat)) is.0 in
    record {
      stay = omega (arith, free, taken, before);
      once = omega (arith, taken, before, by);
      none_lost = omega (arith, waiting);
    } where
      go : (b : Bool) → times number (cond b (old.free ++ seat ∷ []) old.free) ≡ times number old.free + times number (if_true b seat)
      go true = times_append number old.free (seat ∷ [])
      go false = omega arith
step number old new (withdraws key waited) is =
    let free = ap (λ (s : Seating). times number s.free) is.1 in
    let taken = ap (λ (s : Seating). times number s.taken) is.1 in
    let waiting = ap (λ (s : Seating). times number s.waiting) is.1 in
    let before = times_left number key old.waiting in
    let by = ap (λ b. times number (if_true b key)) is.0 in
    record { stay = omega (arith, free, taken); once = omega (arith, taken); none_lost = omega (arith, waiting, before, by) }

pub seats_stay : (number : ℕ) (calls : List SeatCall) (old new : Seating) → SeatsStay number old calls new
seats_stay number [] old new is = ap (λ (s : Seating). times number s.free + times number s.taken) (sym is)
seats_stay number (call ∷ more) old new is =
    seats_stay number more is.0 new is.2 ∙ (step number old is.0 call is.1).stay

pub seats_leave_once : (number : ℕ) (calls : List SeatCall) (old new : Seating) → SeatsLeaveOnce number old calls new
seats_leave_once number [] old new is = let same = ap (λ (s : Seating). times number s.taken) is in omega (arith, same)
seats_leave_once number (call ∷ more) old new is =
    let first = (step number old is.0 call is.1).once in
    let others = seats_leave_once number more is.0 new is.2 in
    let taken = times_append number (taken_by call) (taken_in more) in
    let left = times_append number (left_by call) (left_in more) in
    omega (arith, first, others, taken, left)

pub none_is_lost : (number : ℕ) (calls : List SeatCall) (old new : Seating) → NoneIsLost number old calls new
none_is_lost number [] old new is = let same = ap (λ (s : Seating). times number s.waiting) is in omega (arith, same)
none_is_lost number (call ∷ more) old new is =
    let first = (step number old is.0 call is.1).none_lost in
    let others = none_is_lost number more is.0 new is.2 in
    let waited = times_append number (waited_by call) (waited_in more) in
    let entered = times_append number (entered_by call) (entered_in more) in
    let withdrawn = times_append number (withdrawn_by call) (withdrawn_in more) in
    omega (arith, first, others, waited, entered, withdrawn)

-- a call by which no client begins to wait or enters
none_moves : (old new : List ℕ) → KeepsOrder new old → KeepsOrder new (old ++ [])
none_moves old new is = subst (KeepsOrder new) (sym (append-nil old)) is

order_kept : (old new : Seating) (call : SeatCall) → SeatCalls old call new
    → KeepsOrder (entered_by call ++ new.waiting) (old.waiting ++ waited_by call)
order_kept old new (waits key waited) is =
    subst (λ w. KeepsOrder w (old.waiting ++ if_true waited key)) (sym (ap (λ (s : Seating). s.waiting) is.1))
    (subst (λ b. KeepsOrder (cond (nat_lt (length old.waiting) old.most) (old.waiting ++ key ∷ []) old.waiting)
    (old.waiting ++ if_true b key)) (sym is.0) (go (nat_lt (length old.waiting) old.most))) where
      go : (b : Bool) → KeepsOrder (cond b (old.waiting ++ key ∷ []) old.waiting) (old.waiting ++ if_true b key)
      go true = order_same (old.waiting ++ key ∷ [])
      go false = none_moves old.waiting old.waiting (order_same old.waiting)
order_kept old new (enters None) is =
    subst (λ w. KeepsOrder w (old.waiting ++ [])) (sym (ap (λ (s : Seating). s.waiting) is))
    (none_moves old.waiting old.waiting (order_same old.waiting))
order_kept old new (enters (Some entered)) is =
    none_moves old.waiting (entered.key ∷ new.waiting)
    (subst (KeepsOrder (entered.key ∷ new.waiting)) (sym is.waited) (order_same (entered.key ∷ new.waiting)))
order_kept old new (leaves seat left) is =
    subst (λ w. KeepsOrder w (old.waiting ++ [])) (sym (ap (λ (s : Seating). s.waiting) is.1))
    (none_moves old.waiting old.waiting (order_same old.waiting))
order_kept old new (withdraws key waited) is =
    subst (λ w. KeepsOrder w (old.waiting ++ [])) (sym (ap (λ (s : Seating). s.waiting) is.1))
    (none_moves old.waiting (without key old.waiting) (order_left key old.waiting))

pub none_overtakes : (calls : List SeatCall) (old new : Seating) → NoneOvertakes old calls new
none_overtakes [] old new is =
    subst (λ (s : Seating). KeepsOrder s.waiting (old.waiting ++ [])) is
    (none_moves old.waiting old.waiting (order_same old.waiting))
none_overtakes (call ∷ more) old new is =
    let others = none_overtakes more is.0 new is.2 in
    let first = order_kept old is.0 call is.1 in
    let entered = entered_by call in
    let waited = waited_by call in
    let ahead = order_front entered (entered_in more ++ new.waiting) (is.0.waiting ++ waited_in more) others in
    let behind = order_append (entered ++ is.0.waiting) (old.waiting ++ waited) (waited_in more) first in
    let mid = entered ++ (is.0.waiting ++ waited_in more) in
    let to_mid = subst (λ xs. KeepsOrder xs mid) (sym (append_assoc entered (entered_in more) new.waiting)) ahead in
    let from_mid = subst (λ xs. KeepsOrder xs (old.waiting ++ (waited ++ waited_in more)))
    (append_assoc entered is.0.waiting (waited_in more))
    (subst (KeepsOrder ((entered ++ is.0.waiting) ++ waited_in more)) (append_assoc old.waiting waited (waited_in more)) behind) in
    order_through ((entered ++ entered_in more) ++ new.waiting) mid (old.waiting ++ (waited ++ waited_in more)) to_mid from_mid
