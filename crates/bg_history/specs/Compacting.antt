-- Compacting entries, oldest first.
use Rattle.std.specs.Prelude.{ℕ, Bool, true, false, if◌then◌else◌, ◌==◌, ◌&&◌, ◌-◌, nat_lt, List, ◌∷◌, slice_get, Option, Some, None}
use Rattle.std.specs.List.{list_any}
use Rattle.bg_history.specs.declared.entry.Entry.{Entry}
use Rattle.bg_history.specs.declared.entry.Entry.TheVariants.{Tick, Enter, Leave}
use Rattle.bg_history.specs.declared.compacting.Treatment.{Treatment}
use Rattle.bg_history.specs.declared.compacting.Treatment.TheVariants.{Keep, Discard, CountClosed}
use Rattle.bg_history.specs.Compacted.{untick}

abbrev pub is_tick : Entry → Bool
is_tick (Tick m) = true
is_tick _ = false

abbrev pub is_leave_of : ℕ → Entry → Bool
is_leave_of number (Leave seat n r) = n == number
is_leave_of number _ = false

abbrev pub is_leave : Entry → Bool
is_leave (Leave seat number r) = true
is_leave _ = false

abbrev pub is_enter_of : ℕ → Entry → Bool
is_enter_of number (Enter seat service n r port) = n == number
is_enter_of number _ = false

abbrev pub is_some_enter_of : ℕ → Option Entry → Bool
is_some_enter_of number None = false
is_some_enter_of number (Some e) = is_enter_of number e

-- the entry, or the Leave of its request if it is an Enter whose number passes the test
abbrev pub as_left : (ℕ → Bool) → Entry → Entry
as_left gone (Enter seat service number r port) =
    if gone number then Leave seat number r else Enter seat service number r port
as_left gone e = e

-- what compaction does with an entry, by the entries after it
abbrev pub treatment_of : Entry → List Entry → Treatment
treatment_of (Enter seat service number r port) later =
    if list_any (is_leave_of number) later then CountClosed seat else Keep
treatment_of (Leave seat number r) later = Discard
treatment_of _ later = Keep

-- the kept entries with one more entry that stays
abbrev pub laid : Entry → List Entry → List Entry
laid e kept = if is_tick e then e ∷ untick kept else e ∷ kept

abbrev pub is_some_tick : Option Entry → Bool
is_some_tick None = false
is_some_tick (Some e) = is_tick e

-- the entry at that place and the last of the first `kept` ones are both ticks
abbrev pub overwrites_at : ℕ → ℕ → List Entry → Bool
overwrites_at kept place entries =
    nat_lt 0 kept && is_some_tick (slice_get entries place) && is_some_tick (slice_get entries (kept - 1))
