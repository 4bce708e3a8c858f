-- The result of a piece of a request, and the bytes that were written.
use Rattle.std.specs.Prelude.{◌≡◌, ◌⊎◌, Bool, IsTrue, List, ℕ, Option, Some, None, Result, Ok, Err}
use Rattle.bg_http.specs.declared.request.Request.{Request}
use Rattle.bg_http.specs.declared.request_fault.RequestFault.{RequestFault}
use Rattle.bg_http.specs.declared.request_fault.RequestFault.TheVariants as fault
use Rattle.bg_http_read.specs.Requests.{WritesContinue}
use Rattle.bg_http_read.specs.RequestStates.{IsReadAsked, IsRefusedAsked, OwesContinue, RequestState}

-- if `100 Continue` was asked for, it is owed
abbrev pub OwesIf : Bool → List ℕ → Type 0
OwesIf asked seen = IsTrue asked → OwesContinue seen

-- all these bytes give a request or a fault, or more bytes are needed; unless writing failed, what
-- is owed was appended to what was written before
abbrev pub PieceTo
    : List ℕ → Option (List ℕ) → Option (List ℕ) → Result (Option Request) RequestFault
    → RequestState → Type 0
PieceTo seen first now (Ok (Some request)) new =
    (asked : Bool) × IsReadAsked asked request seen × WritesContinue asked first now
PieceTo seen first now (Ok None) new =
    (new.seen ≡ seen) × IsTrue new.is_open × WritesContinue new.asked first now
    × OwesIf new.asked seen
PieceTo seen first now (Err named) new =
    ((asked : Bool) × IsRefusedAsked asked named seen × WritesContinue asked first now)
    ⊎ ((named ≡ fault.WriteFailed) × OwesContinue seen)
