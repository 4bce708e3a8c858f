-- The bytes on their way to one peer.
use Rattle.std.specs.Prelude.{ℕ, ◌+◌, ◌-◌, ◌^◌, Bool, true, false, List, ◌++◌, drop, length, min, take}

-- the bytes that wait, whether the input that they come from has ended, whether this end was passed on, and the number of bytes that
-- the peer took
pub record DirectionState : Type 0 where
  pub waiting : List ℕ
  pub has_ended : Bool
  pub is_shut : Bool
  pub passed : ℕ

-- these bytes wait, and none was taken
abbrev pub begun_with : List ℕ → DirectionState
begun_with bytes = record { waiting = bytes; has_ended = false; is_shut = false; passed = 0 }

-- so many bytes more, counted up to the greatest u64
abbrev pub counted : ℕ → ℕ → ℕ
counted passed count = min (passed + count) (2 ^ 64 - 1)

-- these bytes came behind those that wait
abbrev pub with_more : List ℕ → DirectionState → DirectionState
with_more bytes direction = record direction { waiting = direction.waiting ++ bytes }

-- the peer took so many bytes, at most those that wait
abbrev pub with_taken : ℕ → DirectionState → DirectionState
with_taken count direction = record direction {
  waiting = drop count direction.waiting;
  passed = counted direction.passed (length (take count direction.waiting));
}

-- the input has ended
abbrev pub ended : DirectionState → DirectionState
ended direction = record direction { has_ended = true }

-- the end was passed on
abbrev pub shut : DirectionState → DirectionState
shut direction = record direction { is_shut = true }
