-- The routing after an entry of a seat was recorded.
use Rattle.std.proofs.Common.{◌≡◌, ◌∷◌, List, slice_get, Some, sym, ap, ◌∙◌, subst}
use Rattle.bg_history.specs.declared.entry.Entry.{Entry}
use Rattle.bg_history.specs.Kept.{Kept}
use Rattle.bg_ledger.specs.declared.holding.Holding.{Holding}
use Rattle.bg_rollout.specs.RequestLists.{OpenAt}
use Rattle.bg_rollout.specs.PastState.{lists_of}
use Rattle.bg_rollout.specs.Changes.{with_past}
use Rattle.bg_rollout.specs.Routing.{Routing}
use Rattle.bg_rollout.specs.Invariant.{RolloutModel, RunningParts, PartsRepresent, state_shown}
use Rattle.bg_rollout.specs.State.{State}
use Rattle.bg_rollout.proofs.WholeStates.Folding.{fold_of}

-- the book's record of the seat equals the seat, in the fields of the rollout
pub known_inside : (inside now : RolloutModel) (seat : Holding) → inside ≡ now → slice_get now.routing.seats seat.index ≡ Some seat → slice_get inside.routing.seats seat.index ≡ Some seat
known_inside inside now seat is known = subst (λ (m : RolloutModel). slice_get m.routing.seats seat.index ≡ Some seat) (sym is) known

-- the routing, in the fields of a rollout
pub routing_seated : (b : Routing) (e : Entry) (k : RunningParts) (lists : List OpenAt) (seats new_seats : List Holding) (history old : Kept)
    → old ≡ record { opening = b.opening; closed = b.closed; past = b.past; spare = old.spare }
    → history ≡ record old { past = e ∷ old.past; spare = history.spare } → lists ≡ lists_of (e ∷ b.past) → seats ≡ new_seats
    → PartsRepresent (with_past b (e ∷ b.past) new_seats) k
    → record b { opening = history.opening; closed = history.closed; past = history.past; lists = lists; seats = seats; running = state_shown k lists seats } ≡ with_past b (e ∷ b.past) new_seats
routing_seated b e k lists seats new_seats history old is_old entry same_lists same_seats represents =
    let hi : history ≡ record { opening = b.opening; closed = b.closed; past = e ∷ b.past; spare = history.spare } =
    entry ∙ ap (λ (h : Kept). record h { past = e ∷ h.past; spare = history.spare }) is_old in
    ap (λ (h : Kept). record b { opening = h.opening; closed = h.closed; past = h.past; lists = lists; seats = seats; running = state_shown k lists seats }) hi
    ∙ ap (λ (ls : List OpenAt). record b { past = e ∷ b.past; lists = ls; seats = seats; running = state_shown k ls seats }) same_lists
    ∙ ap (λ (ss : List Holding). record b { past = e ∷ b.past; lists = lists_of (e ∷ b.past); seats = ss; running = state_shown k (lists_of (e ∷ b.past)) ss }) same_seats
    ∙ ap (λ (x : State). record b { past = e ∷ b.past; lists = lists_of (e ∷ b.past); seats = new_seats; running = x }) (fold_of (with_past b (e ∷ b.past) new_seats) k represents)
