-- What the record of a seat says of the past.
use Rattle.std.proofs.Common.{◌≡◌, ◌≢◌, ℕ, zero, suc, ◌+◌, ◌<◌, ◌≤◌, ◌^◌, Bool, true, false, cond, ◌==◌, nat_le, List, [], ◌∷◌, length, slice_get, get_or, slice_index, sum, Option, Some, None, refl, sym, ap, ◌∙◌, arith}
use Rattle.std.proofs.lemmas.Bool.Decides.{nat_tests}
use Rattle.std.proofs.lemmas.List.Sums.{sum_by-cons}
use Rattle.std.proofs.lemmas.Option.{slice_get_within, get_or_from_slice_get, same_Some}
use Rattle.bg_history.specs.declared.entry.Entry.{Entry}
use Rattle.bg_history.specs.declared.entry.Entry.TheVariants.{Enter, Leave}
use Rattle.bg_history.specs.Requests.{Request, open_requests, held_by, entered, given, calls_in, calls_of}
use Rattle.bg_ledger.specs.declared.holding.Holding.{Holding}
use Rattle.bg_rollout.specs.Routing.{Routing}
use Rattle.bg_rollout.specs.PastState.{seated, seat_of}
use Rattle.bg_rollout.specs.Invariant.{RoutingInvariant, has_number}
use Rattle.bg_rollout.proofs.OpenRequests.Requests.{and_parts, found_passes}

-- the record of a seat is what the past says
pub record Seated (b : Routing) (seat : Holding) : Type 0 where
  pub within : seat.index < b.opening.seats
  pub is : seat_of b.closed seat.index b.past ≡ seat

pub seated_of : (b : Routing) (seat : Holding) → RoutingInvariant b → slice_get b.seats seat.index ≡ Some seat → Seated b seat
seated_of b seat represents known =
    let within : seat.index < b.opening.seats = omega (arith, slice_get_within b.seats seat.index seat known, represents.seats.count) in
    record { within = within; is = same_Some _ _ (sym (represents.seats.each seat.index within) ∙ known) }

-- there are at most 2048 seats
pub few_seats : (b : Routing) → RoutingInvariant b → b.opening.seats ≤ 2048
few_seats b represents = at_most b.opening.seats (and_parts _ (nat_le b.opening.seats 2048) represents.legal.opening).1 where
  at_most : (n : ℕ) → nat_le n 2048 ≡ true → n ≤ 2048
  at_most n h = grind (arith, nat_tests)

pub held_number : (b : Routing) (i : ℕ) (x : Request) → RoutingInvariant b → held_by i b.past ≡ Some x → has_number (given b.closed b.past) x ≡ true
held_number b i x represents held = found_passes (λ q. q.seat == i) (has_number (given b.closed b.past)) (open_requests b.past) x held represents.requests.given

-- a seat whose number is 0 holds no request
pub out_holds_none : (b : Routing) (seat : Holding) → RoutingInvariant b → slice_get b.seats seat.index ≡ Some seat → seat.number ≡ 0 → held_by seat.index b.past ≡ None
out_holds_none b seat represents known zero_number = go (held_by seat.index b.past) refl where
  go : (h : Option Request) → held_by seat.index b.past ≡ h → h ≡ None
  go None e = refl
  go (Some x) e =
      let is : seated seat.index (calls_of b.closed seat.index b.past) (Some x) ≡ seat =
      ap (seated seat.index (calls_of b.closed seat.index b.past)) (sym e) ∙ (seated_of b seat represents known).is in
      let none : x.number ≡ 0 = ap (λ (v : Holding). v.number) is ∙ zero_number in
      let some : has_number (given b.closed b.past) x ≡ true = held_number b seat.index x represents e in
      absurd (grind (arith, nat_tests))

-- a seat whose number isn't 0 holds the request of its record
pub record Holds (b : Routing) (seat : Holding) (x : Request) : Type 0 where
  pub held : held_by seat.index b.past ≡ Some x
  pub number : x.number ≡ seat.number
  pub revision : x.revision ≡ seat.revision
  pub port : x.port ≡ seat.port
  pub is_given : has_number (given b.closed b.past) x ≡ true

pub in_holds : (b : Routing) (seat : Holding) → RoutingInvariant b → slice_get b.seats seat.index ≡ Some seat → seat.number ≢ 0 → (x : Request) × Holds b seat x
in_holds b seat represents known some = go (held_by seat.index b.past) refl where
  go : (h : Option Request) → held_by seat.index b.past ≡ h → (x : Request) × Holds b seat x
  go None e =
      absurd (some (sym (ap (λ (v : Holding). v.number) (ap (seated seat.index (calls_of b.closed seat.index b.past)) (sym e) ∙ (seated_of b seat represents known).is))))
  go (Some x) e =
      let is : seated seat.index (calls_of b.closed seat.index b.past) (Some x) ≡ seat =
      ap (seated seat.index (calls_of b.closed seat.index b.past)) (sym e) ∙ (seated_of b seat represents known).is in (
        x,
        record {
          held = e;
          number = ap (λ (v : Holding). v.number) is;
          revision = ap (λ (v : Holding). v.revision) is;
          port = ap (λ (v : Holding). v.port) is;
          is_given = held_number b seat.index x represents e;
        },
      )

one_or_none : (t : Bool) (n m : ℕ) → n ≤ m → cond t 1 0 + n ≤ m + 1
one_or_none true n m h = omega (arith, h)
one_or_none false n m h = omega (arith, h)

-- the number of a seat's calls is small
calls_few : (i : ℕ) (past : List Entry) → calls_in i past ≤ length past
calls_few i [] = omega arith
calls_few i (Enter seat service number r port ∷ past) = omega (arith, one_or_none (seat == i) (calls_in i past) (length past) (calls_few i past))
calls_few i (Leave seat number r ∷ past) = omega (arith, one_or_none (seat == i) (calls_in i past) (length past) (calls_few i past))
calls_few i (e ∷ past) = omega (arith, calls_few i past)

part_of_sum : (xs : List ℕ) (i : ℕ) → slice_index xs i ≤ sum xs
part_of_sum [] i = omega arith
part_of_sum (x ∷ xs) zero = omega (arith, sum_by-cons (λ (n : ℕ). n) x xs)
part_of_sum (x ∷ xs) (suc i) = let rest : slice_index (x ∷ xs) (suc i) ≤ sum xs = part_of_sum xs i in omega (arith, rest, sum_by-cons (λ (n : ℕ). n) x xs)

pub few_calls : (b : Routing) (seat : Holding) → RoutingInvariant b → length b.past ≤ 1000000 → slice_get b.seats seat.index ≡ Some seat → seat.calls < 2 ^ 60
few_calls b seat represents short known =
    let calls : calls_of b.closed seat.index b.past ≡ seat.calls = calls_is (held_by seat.index b.past) (seated_of b seat represents known).is in
    let few = calls_few seat.index b.past in
    let part = part_of_sum b.closed seat.index in
    let total : entered b.past + sum b.closed ≤ 2 ^ 53 = omega (arith, represents.spent, represents.numbers) in
    omega (arith, calls, few, part, total, short)
  where
    calls_is : (h : Option Request) → seated seat.index (calls_of b.closed seat.index b.past) h ≡ seat → calls_of b.closed seat.index b.past ≡ seat.calls
    calls_is None e = ap (λ (v : Holding). v.calls) e
    calls_is (Some x) e = ap (λ (v : Holding). v.calls) e

-- the record at a seat's index
pub seat_read : (seats : List Holding) (i n : ℕ) (seat v : Holding) → slice_get seats i ≡ Some seat → n ≡ i → v ≡ get_or seats n v → v ≡ seat
seat_read seats i n seat v known same read = read ∙ ap (λ (m : ℕ). get_or seats m v) same ∙ get_or_from_slice_get seats i seat v known
