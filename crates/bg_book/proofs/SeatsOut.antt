-- The seats of a book whose requests leave one after the other.
use Rattle.std.proofs.Common.{◌≡◌, ◌≢◌, ℕ, ◌+◌, ◌<◌, Bool, true, false, ◌==◌, List, slice_get, slice_set, Option, Some, None, inl, inr, refl, sym, ap, ◌∙◌, arith}
use Rattle.std.proofs.lemmas.Bool.Decides.{nat_tests}
use Rattle.std.proofs.lemmas.Option.{slice_get_within, same_Some}
use Rattle.bg_book.specs.declared.calls.Reply.{Reply}
use Rattle.bg_book.specs.declared.calls.Reply.TheVariants.{Entered, EnterRefused, Left, Done, ControlRefused, NoSuchSeat, SeatBusy, SeatIdle}
use Rattle.bg_ledger.specs.declared.holding.Holding.{Holding}
use Rattle.bg_ledger.specs.Holdings.{after_leave}
use Rattle.bg_rollout.specs.Routing.{Routing}
use Rattle.bg_book.specs.Runs.{LeaveAt, LeaveStep}
use Rattle.bg_book.proofs.Tests.{eq_from, get-set_same, get-set_other}

-- no seat before this place holds a request
abbrev pub OutBefore : ℕ → List Holding → Type 0
OutBefore place seats = (i : ℕ) (seat : Holding) → slice_get seats i ≡ Some seat → i < place → seat.number ≡ 0

-- the seat at this place holds no request, and the other seats are unchanged
one_more : (seats new : List Holding) (place : ℕ) → OutBefore place seats → ((seat : Holding) → slice_get new place ≡ Some seat → seat.number ≡ 0)
    → ((i : ℕ) → i ≢ place → slice_get new i ≡ slice_get seats i) → OutBefore (place + 1) new
one_more seats new place before here others i seat get within = go (i == place) refl where
  go : (t : Bool) → (i == place) ≡ t → seat.number ≡ 0
  go true e = here seat (ap (slice_get new) (sym (eq_from i place e)) ∙ get)
  go false e =
      let other : i ≢ place = grind (arith, nat_tests) in
      before i seat (sym (others i other) ∙ get) (omega (arith, within, other))

seat_left : (b : Routing) (seats : List Holding) (place : ℕ) (seat : Holding) (reply : Reply) (new : Routing) (new_seats : List Holding)
    → LeaveStep b seats place seat reply new new_seats → new_seats ≡ slice_set seats place (after_leave seat)
seat_left b seats place seat (Left l) new new_seats step = step.1.1
seat_left b seats place seat (Entered t) new new_seats step = absurd step
seat_left b seats place seat (EnterRefused e) new new_seats step = absurd step
seat_left b seats place seat (Done n) new new_seats step = absurd step
seat_left b seats place seat (ControlRefused e) new new_seats step = absurd step
seat_left b seats place seat NoSuchSeat new new_seats step = absurd step
seat_left b seats place seat SeatBusy new new_seats step = absurd step
seat_left b seats place seat SeatIdle new new_seats step = absurd step

out_at : (b : Routing) (seats : List Holding) (place : ℕ) (found : Option Holding) (reply : Reply) (new : Routing) (new_seats : List Holding)
    → slice_get seats place ≡ found → LeaveAt b seats place found reply new new_seats → OutBefore place seats → OutBefore (place + 1) new_seats
out_at b seats place None reply new new_seats is step before =
    let same : new_seats ≡ seats = step.1.1 in
    one_more seats new_seats place before (λ seat get. absurd (no_seat seat (sym is ∙ ap (λ (l : List Holding). slice_get l place) (sym same) ∙ get))) (λ i other. ap (λ (l : List Holding). slice_get l i) same)
  where
    no_seat : (seat : Holding) → None ≡ Some seat → ⊥
    no_seat seat h = absurd (cc)
out_at b seats place (Some old) reply new new_seats is (inl step) before =
    let same : new_seats ≡ seats = step.1.1.1 in
    one_more seats new_seats place before
    (λ seat get. ap (λ (s : Holding). s.number) (same_Some seat old (sym get ∙ ap (λ (l : List Holding). slice_get l place) same ∙ is)) ∙ step.0)
    (λ i other. ap (λ (l : List Holding). slice_get l i) same)
out_at b seats place (Some old) reply new new_seats is (inr step) before =
    let changed : new_seats ≡ slice_set seats place (after_leave old) = seat_left b seats place old reply new new_seats step.1 in
    one_more seats new_seats place before
    (λ seat get. ap (λ (s : Holding). s.number) (same_Some seat (after_leave old)
    (sym get ∙ ap (λ (l : List Holding). slice_get l place) changed ∙ get-set_same seats place (after_leave old) (slice_get_within seats place old is))))
    (λ i other. ap (λ (l : List Holding). slice_get l i) changed ∙ get-set_other seats place i (after_leave old) other)

-- the seats after the request of the seat at this place left
pub out_after : (b : Routing) (seats : List Holding) (place : ℕ) (reply : Reply) (new : Routing) (new_seats : List Holding)
    → LeaveAt b seats place (slice_get seats place) reply new new_seats → OutBefore place seats → OutBefore (place + 1) new_seats
out_after b seats place reply new new_seats step before = out_at b seats place (slice_get seats place) reply new new_seats refl step before
