-- The head of a request that was not read whole.
use Rattle.std.specs.Prelude.{ℕ, List}
use Rattle.bg_http.specs.declared.request.RequestHead.{RequestHead}
use Rattle.bg_http.specs.declared.request_rules.Framing.{Framing}
use Rattle.bg_http_read.specs.Requests.{JudgedHead}

-- the input begins with this head, which passes all rules
abbrev pub BeginsWith : List ℕ → RequestHead → Type 0
BeginsWith input head = (framing : Framing) × (after : List ℕ) × JudgedHead input head framing after
