-- How connections are accepted, change and leave.
use Rattle.std.specs.Prelude.{◌≡◌, ◌&&◌, ℕ, ◌+◌, ◌-◌, ◌<◌, ◌≤◌, Bool, true, false, List, ◌++◌, length, nat_lt, replicate, slice_set, Option, Some, None}
use Rattle.bg_load.specs.Loads.{begins, begun, observed, turned}
use Rattle.bg_load.specs.Registers.{Register, at}
use Rattle.bg_load.specs.declared.activity.Activity.{Activity}
use Rattle.bg_load.specs.declared.activity.Activity.TheVariants as activity
use Rattle.bg_load.specs.declared.connection.Connection.{Connection}
use Rattle.bg_load.specs.declared.accept_fault.AcceptFault.{AcceptFault}
use Rattle.bg_load.specs.declared.accept_fault.AcceptFault.TheVariants as fault
use Rattle.bg_load.specs.declared.load.Load.{Load}

-- the places, and as many free ones as let a key be the key of a place
abbrev pub grown : List (Option Connection) → ℕ → List (Option Connection)
grown places key = places ++ replicate (key + 1 - length places) None

-- a request begins at a key with this load, and has the next number
abbrev pub numbered : Register → ℕ → Load → Register
numbered old key load = record old {
  places = slice_set old.places key (Some (record { number = old.next; load = load }));
  next = old.next + 1;
}

-- a connection was accepted at a key, and no byte of its request came
abbrev pub accepted : Register → ℕ → ℕ → Register
accepted old key now =
    numbered (record old { places = grown old.places key }) key (begun (activity.Arriving 0) now)

-- a connection may be accepted at a key
pub record MayAccept (r : Register) (key : ℕ) : Type 0 where
  pub within : key < 1048576
  pub vacant : at r.places key ≡ None
  pub number : r.next < 18446744073709551615

-- the first reason why a connection is not accepted at a key. Without one, only memory may be missing
abbrev pub Refuses : Register → ℕ → AcceptFault → Type 0
Refuses r key fault.KeyTooGreat = 1048576 ≤ key
Refuses r key fault.KeyInUse = (key < 1048576) × ¬ (at r.places key ≡ None)
Refuses r key fault.NoNumber = (key < 1048576) × (at r.places key ≡ None) × (18446744073709551615 ≤ r.next)
Refuses r key fault.OutOfMemory = MayAccept r key

-- the load of the connection of a key is changed by a function of it; nothing changes if there is no connection
abbrev pub changed_from : Option Connection → (Load → Load) → List (Option Connection) → ℕ → List (Option Connection)
changed_from None f places key = places
changed_from (Some c) f places key = slice_set places key (Some (record c { load = f c.load }))

abbrev pub changed_by : (Load → Load) → List (Option Connection) → ℕ → List (Option Connection)
changed_by f places key = changed_from (at places key) f places key

-- the connection of a key has this load from now on; a request that begins has the next number, if one is left
abbrev pub loaded : Register → ℕ → Connection → Load → Bool → Register
loaded old key c load true = numbered old key load
loaded old key c load false = record old { places = slice_set old.places key (Some (record c { load = load })) }

-- the connection of a key was observed
abbrev pub observed_from : Option Connection → Register → ℕ → Activity → ℕ → Register
observed_from None old key new now = old
observed_from (Some c) old key new now =
    loaded old key c (observed c.load new now) (begins c.load new && nat_lt old.next 18446744073709551615)

abbrev pub observed_at : Register → ℕ → Activity → ℕ → Register
observed_at old key new now = observed_from (at old.places key) old key new now

-- the connection of a key has left
abbrev pub left : Register → ℕ → Register
left old key = record old { places = slice_set old.places key None }

-- the request of a key was paused, or resumed if it was paused
abbrev pub turned_at : Register → ℕ → ℕ → Register
turned_at old key now = record old { places = changed_by (λ load. turned load now) old.places key }
