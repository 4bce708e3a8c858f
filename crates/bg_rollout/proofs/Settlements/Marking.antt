-- What the deadlines require when they record an entry.
use Rattle.std.proofs.Common.{◌≡◌, ◌≤◌, Bool, true, false, List, length, is_some, sym, subst}
use Rattle.bg_strategy.specs.declared.strategy.Strategy.{Strategy}
use Rattle.bg_revisions.specs.declared.revision.Selectors.{Selectors}
use Rattle.bg_history.specs.declared.entry.Entry.{Entry}
use Rattle.bg_history.specs.AttemptBounds.{newest_of}
use Rattle.bg_history.specs.Selections.{active_of, selectors_of}
use Rattle.bg_history.specs.Sizes.{existing, is_scaled}
use Rattle.bg_history.specs.Deadlines.{deadline, exists_in}
use Rattle.bg_history_laws.specs.Reachable.{Reachable}
use Rattle.bg_scaledown.specs.Due.{has_room_for}
use Rattle.bg_scaledown.specs.Events.{may_mark}
use Rattle.bg_history.specs.Tables.{table_of, DeadlinesInvariant}
use Rattle.bg_rollout.specs.Invariant.{RolloutModel, RunningParts, PartsRepresent}
use Rattle.bg_rollout.specs.Routing.{Routing}
use Rattle.bg_rollout.proofs.OpenRequests.Requests.{and_parts}

-- there is room for the marks: the active and the newest revision exist, and the active one has no deadline
pub room_for_next : (law : (s : Strategy) (past : List Entry) (next : Entry) → DeadlinesInvariant s past
    → exists_in (active_of past) past ≡ true → is_some (deadline s (active_of past) past) ≡ false
    → exists_in (newest_of past) past ≡ true
    → length (existing past) ≤ 64 → has_room_for (may_mark next (selectors_of past)) (table_of s past).marks ≡ true)
    → (b : Routing) (k : RunningParts) (next : Entry) (x : Selectors) → PartsRepresent b k → Reachable b.strategy b.opening b.past → x ≡ selectors_of b.past
    → has_room_for (may_mark next x) k.deadlines.marks ≡ true
room_for_next law b k next x represents reach selected =
    rw (represents.deadlines, selected)
    (law b.strategy b.past next (record { exist = reach.marked_exists; scaled = reach.marked_scaled })
    (and_parts _ _ reach.active).0 reach.active_unmarked reach.newest reach.few)

-- whether the newest revision is scaled, in the fields of a rollout
pub scaled_inside : (inside now : RolloutModel) (b : Bool) → inside ≡ now → b ≡ is_scaled now.routing.strategy (newest_of now.routing.past) now.routing.past
    → b ≡ is_scaled inside.routing.strategy (newest_of inside.routing.past) inside.routing.past
scaled_inside inside now b is h = subst (λ (m : RolloutModel). b ≡ is_scaled m.routing.strategy (newest_of m.routing.past) m.routing.past) (sym is) h
