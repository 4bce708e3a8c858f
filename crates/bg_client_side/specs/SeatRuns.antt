-- What calls make of the seats and of the clients that wait.
use Rattle.std.specs.Prelude.{◌≡◌, ◌⊎◌, ℕ, ◌+◌, Bool, true, false, List, [], ◌∷◌, ◌++◌, if◌then◌else◌, length, nat_lt, Option, Some, None, ⊤}
use Rattle.bg_client_side.specs.Seating.{IsEntered, Seating, has, is_number, without}
use Rattle.bg_client_side.specs.declared.seats.Entered.{Entered}

-- a call, with what it gave
pub data SeatCall : Type 0 where
  waits : ℕ → Bool → SeatCall
  enters : Option Entered → SeatCall
  leaves : ℕ → Bool → SeatCall
  withdraws : ℕ → Bool → SeatCall

-- what the call says of the seats before and after it, by its contract
abbrev pub SeatCalls : Seating → SeatCall → Seating → Type 0
SeatCalls old (waits key waited) new =
    (waited ≡ nat_lt (length old.waiting) old.most)
    × (new ≡ record old { waiting = if nat_lt (length old.waiting) old.most then old.waiting ++ key ∷ [] else old.waiting })
SeatCalls old (enters None) new = new ≡ old
SeatCalls old (enters (Some entered)) new = IsEntered old entered new
SeatCalls old (leaves seat left) new =
    (left ≡ has seat old.taken) × (new ≡ record old {
      taken = without seat old.taken;
      free = if has seat old.taken then old.free ++ seat ∷ [] else old.free;
    })
SeatCalls old (withdraws key waited) new =
    (waited ≡ has key old.waiting) × (new ≡ record old { waiting = without key old.waiting })

-- these calls, one after the other
abbrev pub SeatsRun : Seating → List SeatCall → Seating → Type 0
SeatsRun old [] new = old ≡ new
SeatsRun old (call ∷ more) new = (between : Seating) × SeatCalls old call between × SeatsRun between more new

abbrev pub one_if : Bool → ℕ
one_if true = 1
one_if false = 0

-- how often a number is in a list
abbrev pub times : ℕ → List ℕ → ℕ
times number [] = 0
times number (one ∷ more) = one_if (is_number number one) + times number more

abbrev pub if_true : Bool → ℕ → List ℕ
if_true true number = number ∷ []
if_true false number = []

-- the keys that began to wait by a call, and by calls in their sequence
abbrev pub waited_by : SeatCall → List ℕ
waited_by (waits key waited) = if_true waited key
waited_by other = []

abbrev pub waited_in : List SeatCall → List ℕ
waited_in [] = []
waited_in (call ∷ more) = waited_by call ++ waited_in more

-- the keys that entered
abbrev pub entered_by : SeatCall → List ℕ
entered_by (enters (Some entered)) = entered.key ∷ []
entered_by other = []

abbrev pub entered_in : List SeatCall → List ℕ
entered_in [] = []
entered_in (call ∷ more) = entered_by call ++ entered_in more

-- the keys that were withdrawn
abbrev pub withdrawn_by : SeatCall → List ℕ
withdrawn_by (withdraws key waited) = if_true waited key
withdrawn_by other = []

abbrev pub withdrawn_in : List SeatCall → List ℕ
withdrawn_in [] = []
withdrawn_in (call ∷ more) = withdrawn_by call ++ withdrawn_in more

-- the seats that were taken, and those that were left
abbrev pub taken_by : SeatCall → List ℕ
taken_by (enters (Some entered)) = entered.seat ∷ []
taken_by other = []

abbrev pub taken_in : List SeatCall → List ℕ
taken_in [] = []
taken_in (call ∷ more) = taken_by call ++ taken_in more

abbrev pub left_by : SeatCall → List ℕ
left_by (leaves seat left) = if_true left seat
left_by other = []

abbrev pub left_in : List SeatCall → List ℕ
left_in [] = []
left_in (call ∷ more) = left_by call ++ left_in more

-- the first list is the second one, of which some numbers are left out
abbrev pub KeepsOrder : List ℕ → List ℕ → Type 0
KeepsOrder [] all = ⊤
KeepsOrder (one ∷ more) [] = ⊥
KeepsOrder (one ∷ more) (first ∷ all) = ((one ≡ first) × KeepsOrder more all) ⊎ KeepsOrder (one ∷ more) all

-- THE LAWS

-- each seat is free or taken as often as before
abbrev pub SeatsStay : ℕ → Seating → List SeatCall → Seating → Type 0
SeatsStay seat old calls new =
    SeatsRun old calls new
    → times seat new.free + times seat new.taken ≡ times seat old.free + times seat old.taken

-- each seat that was taken is taken still, or was left, as often
abbrev pub SeatsLeaveOnce : ℕ → Seating → List SeatCall → Seating → Type 0
SeatsLeaveOnce seat old calls new =
    SeatsRun old calls new
    → times seat old.taken + times seat (taken_in calls) ≡ times seat (left_in calls) + times seat new.taken

-- each key that waited entered, was withdrawn, or waits, as often
abbrev pub NoneIsLost : ℕ → Seating → List SeatCall → Seating → Type 0
NoneIsLost key old calls new =
    SeatsRun old calls new
    → times key old.waiting + times key (waited_in calls)
    ≡ times key (entered_in calls) + times key (withdrawn_in calls) + times key new.waiting

-- those that entered, and then those that wait, are in the order in which they began to wait
abbrev pub NoneOvertakes : Seating → List SeatCall → Seating → Type 0
NoneOvertakes old calls new =
    SeatsRun old calls new → KeepsOrder (entered_in calls ++ new.waiting) (old.waiting ++ waited_in calls)
