-- What the check finds of an event that has no fault.
use Rattle.std.specs.Prelude.{◌≡◌, ◌+◌, true, ◌∷◌, unwrap_or}
use Rattle.bg_history.specs.declared.entry.Entry.{Entry}
use Rattle.bg_history.specs.declared.entry.Entry.TheVariants as event
use Rattle.bg_history.specs.Sizes.{last_number}
use Rattle.bg_history.specs.Templates.{namesake as namesake_of}
use Rattle.bg_history.specs.Allowed.{is_allowed}
use Rattle.bg_promotion.specs.Represents.{CoreRepresents}
use Rattle.bg_rollout.specs.declared.accepted_event.AcceptedEvent.{AcceptedEvent}
use Rattle.bg_rollout.specs.declared.accepted_event.AcceptedEvent.TheVariants.{Tick, Deploy, Available, Command}
use Rattle.bg_rollout.specs.Recording.{is_command}
use Rattle.bg_rollout.specs.Routing.{Routing}

-- the entry of an accepted event
abbrev pub entry_of : Routing → AcceptedEvent → Entry
entry_of b (Tick m) = event.Tick m
entry_of b (Deploy namesake name ports) =
    event.Deploy (unwrap_or namesake (last_number b.past + 1)) name.now ports.now
entry_of b (Available r n) = event.Available r n
entry_of b (Command e core) = e

-- what the check found is true: the revision that has the name, or the core after the command
abbrev pub IsFound : Routing → AcceptedEvent → Type 0
IsFound b (Deploy namesake name ports) = namesake ≡ namesake_of b.opening name.now b.past
IsFound b (Command e core) =
    (is_command e ≡ true) × CoreRepresents b.strategy core (e ∷ b.past)
IsFound b _ = Unit {0}

-- the event may be recorded: its entry is allowed, and what the check found is true
pub record IsAccepted (b : Routing) (a : AcceptedEvent) : Type 0 where
  pub allowed : is_allowed b.strategy b.opening (entry_of b a) b.past ≡ true
  pub found : IsFound b a
