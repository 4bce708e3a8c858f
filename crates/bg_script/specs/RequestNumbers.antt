-- The numbers of the requests of a run.
use Rattle.std.specs.Prelude.{ℕ, ◌+◌, min}

-- the number of a request behind those of earlier runs, if it has 64 bits
abbrev pub number_behind : ℕ → ℕ → ℕ
number_behind offset number = min (offset + number) 18446744073709551615
