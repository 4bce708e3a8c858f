-- The ports that are dialled for one request.
use Rattle.std.specs.Prelude.{◌≡◌, ℕ, ◌+◌, Bool, true, false, List, [], ◌∷◌, ◌++◌, length, Option}
use Rattle.bg_dial.specs.declared.dialled.Route.{Route}
use Rattle.bg_endpoints.specs.Choices.{is_new}
use Rattle.bg_endpoints.specs.Routing.{AreInTurnAfter, IsNextPort, IsRoute}
use Rattle.bg_event_loop.specs.declared.tries.Tries.{Tries}

-- the ports that were chosen, the last one last
abbrev pub tried : Tries → List ℕ
tried tries = tries.failed.items ++ tries.port ∷ []

-- another port is chosen behind those before: it is none of them, and follows them
pub record IsNext (follows : List ℕ → ℕ → Type 0) (old new : Tries) : Type 0 where
  pub ticket_is : new.ticket ≡ old.ticket
  pub failed_is : new.failed.items ≡ tried old
  pub once : is_new new.port (tried old) ≡ true
  pub chosen : follows (tried old) new.port

-- another port is chosen, or the ports stay
abbrev pub TriesNext : (List ℕ → ℕ → Type 0) → Tries → Bool → Tries → Type 0
TriesNext follows old true new = IsNext follows old new
TriesNext follows old false new = (new.ticket ≡ old.ticket) × (tried new ≡ tried old)

-- these choices follow one another
abbrev pub TriesRun : (List ℕ → ℕ → Type 0) → Tries → List Tries → Tries → Type 0
TriesRun follows old [] new = old ≡ new
TriesRun follows old (between ∷ more) new = IsNext follows old between × TriesRun follows between more new

-- the ports of a request are dialled one after the other, each once, from the first choice on
abbrev pub AreInTurn : (List ℕ → ℕ → Type 0) → Tries → List Tries → Tries → Type 0
AreInTurn follows first others last =
    first.failed.items ≡ [] → follows [] first.port → TriesRun follows first others last
    → AreInTurnAfter follows [] (tried last)

-- the port that was dialled last, and how many were dialled
abbrev pub route_of : Tries → Route
route_of tries = record { port = tries.port; tries = length tries.failed.items + 1 }

-- ports that are chosen by a directory, if there is one, are a route by it
abbrev pub TakesRoute : {D : Type 0} → Option D → ℕ → Tries → List Tries → Tries → Type 0
TakesRoute directory ticket first others last =
    first.failed.items ≡ [] → IsNextPort directory ticket [] first.port
    → TriesRun (IsNextPort directory ticket) first others last → IsRoute directory ticket (route_of last)
