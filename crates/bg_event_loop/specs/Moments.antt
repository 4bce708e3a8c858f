-- Moments, in milliseconds from the start of a loop.
use Rattle.std.specs.Prelude.{ℕ, Bool, false, nat_le, Option, Some, None}

-- the moment has come
abbrev pub is_past : Option ℕ → ℕ → Bool
is_past None now = false
is_past (Some moment) now = nat_le moment now
