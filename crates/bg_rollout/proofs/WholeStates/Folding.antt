-- The running state, shown as a state, is the state of the past.
use Rattle.std.proofs.Common.{◌≡◌, ℕ, zero, suc, ◌+◌, ◌<◌, Bool, true, false, cond, ◌==◌, ◌||◌, List, [], ◌∷◌, length, map, slice_get, Some, None, refl, ap, ◌∙◌, arith}
use Rattle.std.specs.List.{list_any}
use Rattle.std.proofs.lemmas.Option.{same_Some}
use Rattle.bg_strategy.specs.declared.strategy.Strategy.{Strategy}
use Rattle.bg_revisions.specs.declared.revision.Revision.{Revision}
use Rattle.bg_history.specs.declared.entry.Entry.{Entry}
use Rattle.bg_history.specs.AttemptBounds.{moment as moment_of}
use Rattle.bg_history.specs.Sizes.{existing}
use Rattle.bg_history.specs.Deadlines.{exists_in}
use Rattle.bg_history.specs.Selections.{selectors_of}
use Rattle.bg_history_laws.specs.Listed.{revision_of}
use Rattle.bg_promotion.specs.Phases.{phase_of}
use Rattle.bg_promotion.specs.Core.{Core}
use Rattle.bg_promotion.specs.Represents.{CoreRepresents}
use Rattle.bg_scaledown.specs.Due.{deadline_in}
use Rattle.bg_history.specs.Tables.{Table, table_of}
use Rattle.bg_ledger.specs.declared.holding.Holding.{Holding}
use Rattle.bg_rollout.specs.RequestLists.{OpenAt, requests_of, requests_in}
use Rattle.bg_rollout.specs.Invariant.{RunningParts, PartsRepresent, phase_in, selectors_in, revision_shown, state_shown}
use Rattle.bg_rollout.specs.PastState.{lists_of, requests_at, seat_of}
use Rattle.bg_rollout.specs.Routing.{Routing}
use Rattle.bg_rollout.specs.State.{revision_state, seats_from, state_of}
use Rattle.bg_rollout.proofs.ControlEvents.Events.{is_numbered}
use Rattle.bg_rollout.proofs.OpenRequests.Lists.{find_list}
use Rattle.bg_rollout.proofs.OpenRequests.Requests.{eq_refl}

phase_shown : (s : Strategy) (k : Core) (past : List Entry) → CoreRepresents s k past → phase_in k ≡ phase_of s past
phase_shown s k past represents =
    rw (represents.halted_is, represents.running_is, represents.ready_is, represents.resumed_is, represents.switched_is, represents.passed_at_is, represents.pre_is, represents.post_is, represents.auto_promotion_is, represents.auto_seconds_is) refl

selectors_shown : (s : Strategy) (k : Core) (past : List Entry) → CoreRepresents s k past → selectors_in k ≡ selectors_of past
selectors_shown s k past represents = rw (represents.active_is, represents.running_is, represents.newest_is, represents.stable_is) refl

-- the list of an existing revision
requests_shown : (past : List Entry) (r : ℕ) → exists_in r past ≡ true → requests_of r (lists_of past) ≡ requests_at r past
requests_shown past r exists =
    ap requests_in (find_list (λ q. requests_at q past) r (existing past))
    ∙ ap (λ b. requests_in (cond b (Some (record { revision = r; requests = requests_at r past })) None)) exists

or_true : (a : Bool) → (a || true) ≡ true
or_true true = refl
or_true false = refl

-- functions that agree at each element
map_same : {X : Type 0} (f g : ℕ → X) (xs : List ℕ) → ((r : ℕ) → list_any (λ q. q == r) xs ≡ true → f r ≡ g r) → map f xs ≡ map g xs
map_same f g [] same = refl
map_same f g (x ∷ xs) same =
    ap (λ y. y ∷ map f xs) (same x (ap (λ b. b || list_any (λ q. q == x) xs) (eq_refl x)))
    ∙ ap (λ ys. g x ∷ ys) (map_same f g xs (λ r there. same r (ap (λ b. (x == r) || b) there ∙ or_true (x == r))))

map_map : {X : Type 0} (f : Revision → X) (g : ℕ → Revision) (xs : List ℕ) → map f (map g xs) ≡ map (λ r. f (g r)) xs
map_map f g [] = refl
map_map f g (x ∷ xs) = ap (λ ys. f (g x) ∷ ys) (map_map f g xs)

-- an existing revision, as the state shows it
revision_is : (b : Routing) (k : RunningParts) (r : ℕ) → k.deadlines ≡ table_of b.strategy b.past → b.lists ≡ lists_of b.past → exists_in r b.past ≡ true
    → revision_shown k b.lists (revision_of b.strategy b.opening b.past r) ≡ revision_state b.strategy b.opening b.past r
revision_is b k r deadlines lists exists =
    let v = revision_of b.strategy b.opening b.past r in
    let number : v.number ≡ r = is_numbered b.strategy b.opening b.past r in
    ap (λ (n : ℕ). record { revision = v; deadline = deadline_in k.deadlines n; requests = requests_of n b.lists }) number
    ∙ ap (λ (t : Table). record { revision = v; deadline = deadline_in t r; requests = requests_of r b.lists }) deadlines
    ∙ ap (λ (ls : List OpenAt). record { revision = v; deadline = deadline_in (table_of b.strategy b.past) r; requests = requests_of r ls }) lists
    ∙ ap (λ qs. record { revision = v; deadline = deadline_in (table_of b.strategy b.past) r; requests = qs }) (requests_shown b.past r exists)

revisions_shown : (b : Routing) (k : RunningParts) → PartsRepresent b k → map (revision_shown k b.lists) k.roster.revisions ≡ map (revision_state b.strategy b.opening b.past) (existing b.past)
revisions_shown b k represents =
    ap (map (revision_shown k b.lists)) represents.revisions
    ∙ map_map (revision_shown k b.lists) (revision_of b.strategy b.opening b.past) (existing b.past)
    ∙ map_same (λ r. revision_shown k b.lists (revision_of b.strategy b.opening b.past r)) (revision_state b.strategy b.opening b.past) (existing b.past)
    (λ r there. revision_is b k r represents.deadlines represents.routing.lists there)

-- the records of the seats
seats_are : (closed : List ℕ) (past : List Entry) (i n : ℕ) (seats : List Holding) → length seats ≡ n
    → ((k : ℕ) → k < n → slice_get seats k ≡ Some (seat_of closed (i + k) past)) → seats ≡ seats_from closed past i n
seats_are closed past i zero [] count each = refl
seats_are closed past i (suc n) [] count each = absurd (omega (arith, count))
seats_are closed past i zero (s ∷ seats) count each = absurd (omega (arith, count))
seats_are closed past i (suc n) (s ∷ seats) count each =
    ap (λ (v : Holding). v ∷ seats) (same_Some s _ (each 0 (omega arith)) ∙ ap (λ (k : ℕ). seat_of closed k past) (none_on i))
    ∙ ap (λ (vs : List Holding). seat_of closed i past ∷ vs)
    (seats_are closed past (i + 1) n seats (omega (arith, count)) (λ k within. each (suc k) (omega (arith, within)) ∙ ap (λ (j : ℕ). Some (seat_of closed j past)) (next i k)))
  where
    none_on : (j : ℕ) → j + 0 ≡ j
    none_on j = omega arith

    next : (j k : ℕ) → j + suc k ≡ j + 1 + k
    next j k = omega arith

pub fold_of : (b : Routing) (k : RunningParts) → PartsRepresent b k → state_shown k b.lists b.seats ≡ state_of b.strategy b.opening b.closed b.past
fold_of b k represents =
    let seats : b.seats ≡ seats_from b.closed b.past 0 b.opening.seats =
    seats_are b.closed b.past 0 b.opening.seats b.seats represents.routing.seats.count (λ i within. represents.routing.seats.each i within ∙ ap (λ (j : ℕ). Some (seat_of b.closed j b.past)) (zero_on i)) in
    ap (λ (m : ℕ). record (state_shown k b.lists b.seats) { moment = m }) represents.moment
    ∙ ap (λ p. record (state_shown k b.lists b.seats) { moment = moment_of b.past; phase = p }) (phase_shown b.strategy k.core b.past represents.core)
    ∙ ap (λ x. record (state_shown k b.lists b.seats) { moment = moment_of b.past; phase = phase_of b.strategy b.past; selectors = x }) (selectors_shown b.strategy k.core b.past represents.core)
    ∙ ap (λ vs. record (state_of b.strategy b.opening b.closed b.past) { revisions = vs; seats = b.seats }) (revisions_shown b k represents)
    ∙ ap (λ (vs : List Holding). record (state_of b.strategy b.opening b.closed b.past) { seats = vs }) seats
  where
    zero_on : (j : ℕ) → j ≡ 0 + j
    zero_on j = omega arith
