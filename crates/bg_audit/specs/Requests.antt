-- The requests that the audit keeps of a past.
use Rattle.std.specs.Prelude.{ℕ, Bool, true, max, nat_lt, List, [], ◌∷◌, Option, Some, None}
use Rattle.bg_history.specs.Requests.{Request}
use Rattle.bg_audit.specs.declared.requests.AuditedRequest.{AuditedRequest}

-- an open request, in the type of the code
abbrev pub request_told : Request → AuditedRequest
request_told q = record { seat = q.seat; number = q.number; revision = q.revision }

-- the greater of a number and an optional one
abbrev pub greater_of : ℕ → Option ℕ → ℕ
greater_of n None = n
greater_of n (Some m) = max n m

-- the greatest of the numbers, if there is one
abbrev pub greatest_of : List ℕ → Option ℕ
greatest_of [] = None
greatest_of (n ∷ rest) = Some (greater_of n (greatest_of rest))

-- the number is above the other one, or there is no other one
abbrev pub is_above : ℕ → Option ℕ → Bool
is_above n None = true
is_above n (Some m) = nat_lt m n
