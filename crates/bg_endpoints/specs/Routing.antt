-- The ports that are dialled for a request.
use Rattle.std.specs.Prelude.{◌≡◌, ℕ, ◌+◌, List, [], ◌∷◌, ◌++◌, length, IsNone, IsSome, Option, Some, true, ⊤}
use Rattle.bg_dial.specs.declared.dialled.Route.{Route}
use Rattle.bg_endpoints.specs.Choices.{chosen, is_new}
use Rattle.bg_endpoints.specs.declared.table.Table.{Table}

-- each of these ports, which were dialled after those before, is none of the ports that were dialled before it, and
-- follows them
abbrev pub AreInTurnAfter : (List ℕ → ℕ → Type 0) → List ℕ → List ℕ → Type 0
AreInTurnAfter follows before [] = ⊤
AreInTurnAfter follows before (port ∷ later) =
    (is_new port before ≡ true) × follows before port
    × AreInTurnAfter follows (before ++ port ∷ []) later

-- the ports of a route, the last one last: they were dialled one after the other, each once
pub record IsInTurn (follows : List ℕ → ℕ → Type 0) (route : Route) : Type 0 where
  pub earlier : List ℕ
  pub count : length earlier + 1 ≡ route.tries
  pub ports : AreInTurnAfter follows [] (earlier ++ route.port ∷ [])

-- some table of ports chooses the port for a request whose ticket has the port `ticket`, after those that were tried
pub record IsChosen (ticket : ℕ) (tried : List ℕ) (port : ℕ) : Type 0 where
  pub table : Table
  pub now : ℕ
  pub choice : chosen table ticket tried now ≡ Some port

-- by a directory, each port is chosen after those before it, from the first one on; without one, the ticket's port is
-- dialled, once
abbrev pub IsRoute : {D : Type 0} → Option D → ℕ → Route → Type 0
IsRoute directory ticket route =
    (IsSome directory → IsInTurn (IsChosen ticket) route)
    × (IsNone directory → route ≡ record { port = ticket; tries = 1 })

-- by a directory, the port is chosen after those that were tried; without one, it is the ticket's, and none was tried
abbrev pub IsNextPort : {D : Type 0} → Option D → ℕ → List ℕ → ℕ → Type 0
IsNextPort directory ticket tried port =
    (IsSome directory → IsChosen ticket tried port)
    × (IsNone directory → (port ≡ ticket) × (tried ≡ []))
