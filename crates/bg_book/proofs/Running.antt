-- Seats of a slice, and runs of calls.
use Rattle.std.proofs.Common.{◌≡◌, ◌≢◌, ◌<◌, ℕ, zero, suc, Bool, true, false, nat_lt, List, [], ◌∷◌, ◌++◌, length, get_or, slice_set, refl, ap, ◌∙◌, subst, arith}
use Rattle.std.proofs.lemmas.Bool.Decides.{nat_tests}
use Rattle.bg_book.specs.declared.calls.Call.{Call}
use Rattle.bg_book.specs.declared.calls.Reply.{Reply}
use Rattle.bg_ledger.specs.declared.holding.Holding.{Holding}
use Rattle.bg_rollout.specs.Changes.{with_past}
use Rattle.bg_rollout.specs.Gathering.{indices}
use Rattle.bg_rollout.specs.Routing.{Routing}
use Rattle.bg_book.specs.Runs.{CallStep, Runs, SeatChanged}

-- a seat holds a request if its number isn't 0
pub holds_one : (n : ℕ) (t : Bool) → t ≡ nat_lt 0 n → t ≡ true → n ≢ 0
holds_one n t e h = grind (arith, nat_tests)

pub holds_none : (n : ℕ) (t : Bool) → t ≡ nat_lt 0 n → t ≡ false → n ≡ 0
holds_none n t e h = grind (arith, nat_tests)

-- if a seat is replaced by one of the same index, the indices stay the same
pub same_order : (seats : List Holding) (place : ℕ) (d new : Holding) → place < length seats → new.index ≡ (get_or seats place d).index
    → indices (slice_set seats place new) ≡ indices seats
same_order [] place d new h e = absurd (omega (arith, h))
same_order (s ∷ rest) zero d new h e = ap (λ (n : ℕ). n ∷ indices rest) e
same_order (s ∷ rest) (suc place) d new h e = ap (λ (ns : List ℕ). s.index ∷ ns) (same_order rest place d new (omega (arith, h)) e)

-- a book and its seat after a call of a slice that has this seat alone
pub changed_alone : (b new : Routing) (seat new_seat changed : Holding) → new ≡ with_past b new.past (slice_set b.seats seat.index new_seat) → new_seat ≡ changed
    → SeatChanged b (seat ∷ []) 0 seat changed new (new_seat ∷ [])
changed_alone b new seat new_seat changed book is =
    (book ∙ ap (λ (v : Holding). with_past b new.past (slice_set b.seats seat.index v)) is, ap (λ (v : Holding). v ∷ []) is)

-- a run with one more call at its end
pub run_more : (b : Routing) (seats : List Holding) (calls : List Call) (replies : List Reply) (now : Routing) (now_seats : List Holding) (c : Call) (reply : Reply) (new : Routing) (new_seats : List Holding)
    → Runs b seats calls replies now now_seats → CallStep now now_seats c reply new new_seats → Runs b seats (calls ++ c ∷ []) (replies ++ reply ∷ []) new new_seats
run_more b seats [] [] now now_seats c reply new new_seats run step =
    (new, (new_seats, (subst (λ (x : Routing). CallStep x seats c reply new new_seats) run.0 (subst (λ (xs : List Holding). CallStep now xs c reply new new_seats) run.1 step), (refl, refl))))
run_more b seats [] (r ∷ replies) now now_seats c reply new new_seats run step = absurd run
run_more b seats (d ∷ calls) [] now now_seats c reply new new_seats run step = absurd run
run_more b seats (d ∷ calls) (r ∷ replies) now now_seats c reply new new_seats run step =
    (run.0, (run.1.0, (run.1.1.0, run_more run.0 run.1.0 calls replies now now_seats c reply new new_seats run.1.1.1 step)))
