-- The methods of requests.
use Rattle.std.specs.Prelude.{ℕ, Bool, ◌||◌, List, codes}
use Rattle.std.specs.Str.{bytes_eq}

-- a request with this method that is sent twice means what it means once (RFC 9110 section 9.2.2)
abbrev pub is_idempotent : List ℕ → Bool
is_idempotent method =
    bytes_eq method (codes "GET") || bytes_eq method (codes "HEAD") || bytes_eq method (codes "OPTIONS")
    || bytes_eq method (codes "TRACE") || bytes_eq method (codes "PUT") || bytes_eq method (codes "DELETE")
