-- Recording an entry that comes from no seat.
use Rattle.std.specs.Prelude.{◌≡◌, ◌+◌, Bool, true, false, ◌∷◌}
use Rattle.bg_history.specs.declared.entry.Entry.{Entry}
use Rattle.bg_history.specs.declared.entry.Entry.TheVariants.{Verdict, Promote, PromoteFull, Abort, Retry}
use Rattle.bg_rollout.specs.Changes.{with_past}
use Rattle.bg_rollout.specs.Invariant.{RolloutModel}

-- an entry that comes from no seat was recorded: it is the newest of the past, and it took one reserved place
pub record Recorded (e : Entry) (old new : RolloutModel) : Type 0 where
  pub routing : new.routing ≡ with_past old.routing (e ∷ old.routing.past) old.routing.seats
  pub spare : new.spare + 1 ≡ old.spare

-- the entry is a promotion command
abbrev pub is_command : Entry → Bool
is_command (Verdict analysis result) = true
is_command Promote = true
is_command PromoteFull = true
is_command Abort = true
is_command Retry = true
is_command _ = false
