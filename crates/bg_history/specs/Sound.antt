-- The entries that may be compacted.
use Rattle.std.specs.Prelude.{ℕ, Bool, true, false, not, ◌==◌, ◌&&◌, ◌||◌, nat_lt, List, [], ◌∷◌}
use Rattle.bg_history.specs.declared.entry.Entry.{Entry}
use Rattle.bg_history.specs.declared.entry.Entry.TheVariants.{Enter, Leave}
use Rattle.bg_history.specs.Requests.{request_numbers}
use Rattle.bg_history.specs.Compacted.{left_numbers, is_among}

-- a request of that seat and number entered
abbrev pub has_entered : ℕ → ℕ → List Entry → Bool
has_entered seat number [] = false
has_entered seat number (Enter q service n r port ∷ before) =
    ((q == seat) && (n == number)) || has_entered seat number before
has_entered seat number (_ ∷ before) = has_entered seat number before

-- no two Enters and no two Leaves have the same number, each Leave follows its Enter and has its seat, and each seat
-- is below `seats`
abbrev pub is_sound : ℕ → List Entry → Bool
is_sound seats [] = true
is_sound seats (Enter seat service number r port ∷ before) =
    nat_lt seat seats && not (is_among (request_numbers before) number) && is_sound seats before
is_sound seats (Leave seat number r ∷ before) =
    has_entered seat number before && not (is_among (left_numbers before) number)
    && is_sound seats before
is_sound seats (_ ∷ before) = is_sound seats before
