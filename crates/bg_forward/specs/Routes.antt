-- What is dialled for a request.
use Rattle.std.specs.Prelude.{ℕ, Option, Some, None, ⊤}
use Rattle.bg_rollout.specs.declared.ticket.Ticket.{Ticket}
use Rattle.bg_dial.specs.declared.dialled.Route.{Route}

-- a request that entered was dialled for at its ticket's port, and this fact holds for the route; without a
-- ticket nothing was dialled
abbrev pub IsRouted : (ℕ → Route → Type 0) → Option Ticket → Option Route → Type 0
IsRouted routes None None = ⊤
IsRouted routes None (Some route) = ⊥
IsRouted routes (Some t) None = ⊥
IsRouted routes (Some t) (Some route) = routes t.port route
