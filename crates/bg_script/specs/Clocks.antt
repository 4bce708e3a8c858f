-- The readings of a boot clock.
use Rattle.std.specs.Prelude.{◌≡◌, ◌<◌, ◌≤◌, ℕ, Bool, true, false}

-- a clock that may read so is below this time limit, by one of its readings, or is not
abbrev pub ReadsInTime : (ℕ → Bool) → ℕ → Bool → Type 0
ReadsInTime reads milliseconds true =
    (reading : ℕ) × (reads reading ≡ true) × (reading < milliseconds)
ReadsInTime reads milliseconds false =
    (reading : ℕ) × (reads reading ≡ true) × (milliseconds ≤ reading)
