-- A response that is written.
use Rattle.std.specs.Prelude.{ℕ, List, ◌++◌, drop, take}

-- what was written of it, what is still to be written, and its memory in bytes
pub record Outgoing : Type 0 where
  pub sent : List ℕ
  pub rest : List ℕ
  pub weight : ℕ

-- so many bytes more were written
abbrev pub with_written : Outgoing → ℕ → Outgoing
with_written outgoing count = record outgoing {
  sent = outgoing.sent ++ take count outgoing.rest;
  rest = drop count outgoing.rest;
}
