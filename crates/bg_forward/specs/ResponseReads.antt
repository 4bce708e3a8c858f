-- What one read makes of a response.
use Rattle.std.specs.Prelude.{◌≡◌, ℕ, IfSome, List, ◌++◌, Option}
use Rattle.std.specs.Io.KnownBytes.{Consumes, IsAtEnd}
use Rattle.bg_http_read.specs.Responses.{ReadsResponse}
use Rattle.bg_http_read.specs.ResponseStates.{ResponseState}
use Rattle.bg_forward.specs.declared.forwarding.Taken.{Taken}
use Rattle.bg_forward.specs.declared.forwarding.Taken.TheVariants as taken

-- what a read made of a response, by the parser and the bytes that were to come, before and after it: these bytes
-- complete the response; or some of them came, and the parser has seen them; or there were none, and the parser is the same
abbrev pub IsTaken : ResponseState → ResponseState → Option (List ℕ) → Option (List ℕ) → Taken → Type 0
IsTaken old new before after (taken.Whole response) =
    IfSome before (λ input. ReadsResponse old.request response (old.seen ++ input))
IsTaken old new before after taken.More =
    (came : List ℕ) × (new ≡ record old { seen = old.seen ++ came }) × Consumes before after came
IsTaken old new before after taken.End = (new ≡ old) × IsAtEnd before
