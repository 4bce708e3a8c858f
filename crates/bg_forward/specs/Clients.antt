-- The clients that an `Accept` gives, and the connections that it ends.
use Rattle.std.specs.Prelude.{ℕ, IfSome, List, [], Option, Some}
use Rattle.bg_rollout.specs.declared.ticket.Ticket.{Ticket}
use Rattle.bg_forward.specs.Connections.{Connection, ReadOutcome, Receives}
use Rattle.bg_http.specs.declared.refusal.RefusalBody.{RefusalBody}
use Rattle.bg_forward.specs.declared.serving.End.{End}

-- if the bytes that a client sent are known: this is the outcome of reading them, and only what is owed to
-- their head was written to the client
abbrev pub IsReceived : Option (List ℕ) → Option (List ℕ) → ReadOutcome → Type 0
IsReceived sent written read =
    IfSome sent (λ input. Receives (Some input) (Some []) written read)

-- if the bytes that a client sent are known: its whole connection, from the first byte that was written to
-- the client, where refusals have these bodies
abbrev pub IsServed
    : RefusalBody → Option (List ℕ) → Option (List ℕ) → ReadOutcome → Option Ticket → End → Type 0
IsServed body sent written read entered e =
    IfSome sent (λ input. Connection body (Some input) (Some []) written read entered e)
