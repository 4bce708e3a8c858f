-- The share of an endpoint in the requests.
use Rattle.std.specs.Prelude.{ℕ, ◌*◌, ◌/◌, max, min, Option, Some, None}
use Rattle.bg_endpoints.specs.declared.share.Share.{Share}

-- twice an equal part of the concurrency
abbrev pub equal_part : ℕ → ℕ → ℕ
equal_part concurrency endpoints = min (2 * concurrency / max endpoints 1) 4294967295

-- a given number, or twice an equal part of the concurrency, but at most half of it; at least 1
abbrev pub share_by : Option ℕ → ℕ → ℕ → ℕ
share_by (Some given) concurrency endpoints = max given 1
share_by None concurrency endpoints = max (min (equal_part concurrency endpoints) (concurrency / 2)) 1

-- the share of each of so many endpoints
abbrev pub share_of : Share → ℕ → ℕ
share_of s endpoints = share_by s.given s.concurrency endpoints
