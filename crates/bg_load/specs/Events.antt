-- The calls that change the loads, one after the other.
use Rattle.std.specs.Prelude.{◌≡◌, ℕ, ◌≤◌, true, List, [], ◌∷◌, Option, Some}
use Rattle.bg_load.specs.Changes.{MayAccept, accepted, left, observed_at}
use Rattle.bg_load.specs.Pauses.{IsAsRuled, is_large_at, is_paused, looked, pauses_of, regulated}
use Rattle.bg_load.specs.Registers.{Register, at}
use Rattle.bg_load.specs.declared.activity.Activity.{Activity}
use Rattle.bg_load.specs.declared.activity.Activity.TheVariants as activity
use Rattle.bg_load.specs.declared.connection.Connection.{Connection}
use Rattle.bg_load.specs.declared.totals.Totals.{Totals}

-- what changes the loads. Where a call changes them, one of these events says how
pub data Event : Type 0 where
  -- a connection was accepted at a key and a moment
  accepting : ℕ → ℕ → Event
  -- the connection of a key was observed at a moment
  observing : ℕ → Activity → ℕ → Event
  -- the connection of a key left
  leaving : ℕ → Event
  -- the request of a key was paused or resumed at a moment
  regulating : ℕ → ℕ → Event
  -- it is known anew whether large requests are paused, and each is as the rule says
  looking : Event
  -- the connections of the other loops come to this
  noting_others : Totals → Event

-- what an event makes of the loads
abbrev pub Steps : Event → Register → Register → Type 0
Steps (accepting key now) old new = MayAccept old key × (new ≡ accepted old key now)
Steps (observing key seen now) old new = new ≡ observed_at old key seen now
Steps (leaving key) old new = new ≡ left old key
Steps (regulating key now) old new =
    ¬ IsAsRuled (pauses_of (looked old)) old.places (at old.places key) × (new ≡ regulated old key now)
Steps looking old new = new ≡ looked old
Steps (noting_others others) old new = new ≡ record old { others = others }

-- the events lead from one register to the other
abbrev pub Runs : List Event → Register → Register → Type 0
Runs [] old new = new ≡ old
Runs (event ∷ events) old new = (mid : Register) × Steps event old mid × Runs events mid new

-- each request that is paused is large
abbrev pub IsPausedLarge : Option Connection → Type 0
IsPausedLarge p = is_paused p ≡ true → is_large_at p ≡ true

abbrev pub OnlyLargePaused : Register → Type 0
OnlyLargePaused r = (key : ℕ) → IsPausedLarge (at r.places key)

-- THE LAWS

-- no small request is paused, if none was before
abbrev pub SmallGoOn : List Event → Register → Register → Type 0
SmallGoOn events old new = OnlyLargePaused old → Runs events old new → OnlyLargePaused new

-- a paused request stays paused when it is observed to be arriving, with as many bytes as before or more
abbrev pub PauseStays : Register → ℕ → Connection → ℕ → ℕ → ℕ → Type 0
PauseStays old key c before bytes now =
    at old.places key ≡ Some c → c.load.activity ≡ activity.Arriving before → before ≤ bytes
    → is_paused (at (observed_at old key (activity.Arriving bytes) now).places key) ≡ c.load.is_paused
