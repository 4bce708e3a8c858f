-- What was found before a connection ended for its reason.
use Rattle.std.specs.Prelude.{◌≡◌, ◌⊎◌, IfSome, Option, Some, None, Ok, Err, ⊤}
use Rattle.bg_rollout.specs.declared.fault.EnterFault.{EnterFault}
use Rattle.bg_rollout.specs.declared.ticket.Ticket.{Ticket}
use Rattle.bg_forward.specs.Connections.{ReadOutcome}
use Rattle.bg_forward.specs.Reasons.{enter_reason, request_reason}
use Rattle.bg_forward.specs.declared.reason.Reason.{Reason}
use Rattle.bg_forward.specs.declared.reason.Reason.TheVariants as reason
use Rattle.bg_forward.specs.declared.serving.End.{End}
use Rattle.bg_forward.specs.declared.serving.End.TheVariants as end

-- a request is given up only if its gate said so, and its client has gone only if that was found
abbrev pub IsFound : Type 0 → Type 0 → Reason → Type 0
IsFound given_up gone reason.GivenUp = given_up
IsFound given_up gone reason.ClientGone = gone
IsFound given_up gone why = ⊤

-- the same at the end of a connection: a client that has not taken its response has gone too
abbrev pub IsFoundAt : Type 0 → Type 0 → End → Option Reason → Type 0
IsFoundAt given_up gone e why = IfSome why (IsFound given_up (gone ⊎ (e ≡ end.WriteFailed)))

-- the reason of a connection: that of its request's fault, that of the gate's refusal, or, once it entered, one that
-- was found. The facts are those of a request that is given up, by its ticket, and of a client that has gone
abbrev pub IsCause : ReadOutcome → (Ticket → Type 0) → Type 0 → Option Ticket → End → Option Reason → Type 0
IsCause (Err fault) given_up gone None e why = why ≡ request_reason fault
IsCause (Err fault) given_up gone (Some t) e why = ⊥
IsCause (Ok request) given_up gone None e why = (fault : EnterFault) × (why ≡ Some (enter_reason fault))
IsCause (Ok request) given_up gone (Some t) e why = IsFoundAt (given_up t) gone e why
