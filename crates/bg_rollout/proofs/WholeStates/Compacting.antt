-- The running state of a rollout is what its compacted history says.
use Rattle.std.proofs.Common.{◌≡◌, ◌+◌, ℕ, zero, suc, List, [], ◌∷◌, length, map, find, Some, ◌==◌, subst, refl, arith, ap, sym, ◌∙◌}
use Rattle.std.specs.List.{list_all}
use Rattle.bg_strategy.specs.declared.strategy.Strategy.{Strategy}
use Rattle.bg_history.specs.declared.entry.Entry.{Entry}
use Rattle.bg_history.specs.Kept.{Opening}
use Rattle.bg_history.specs.Selections.{selectors_of}
use Rattle.bg_history.specs.Sizes.{existing}
use Rattle.bg_history.specs.AttemptBounds.{moment}
use Rattle.bg_history.specs.Requests.{open_requests, held_by, given, calls_of}
use Rattle.bg_history_laws.specs.Listed.{revision_of, revisions_of}
use Rattle.bg_ledger.specs.declared.holding.Holding.{Holding}
use Rattle.bg_promotion.specs.Phases.{phase_of}
use Rattle.bg_scaledown.specs.Due.{deadline_in}
use Rattle.bg_history.specs.Tables.{Table, table_of}
use Rattle.bg_rollout.specs.PastState.{lists_of, requests_at, seat_of, seated}
use Rattle.bg_rollout.specs.State.{revision_state, seats_from, state_of}
use Rattle.bg_rollout.specs.Routing.{Routing}
use Rattle.bg_rollout.specs.Invariant.{has_number, Differ, RoutingInvariant, RunningParts, PartsRepresent}
use Rattle.bg_history.specs.Compacted.{compacted, closed_after}
use Rattle.bg_history_laws.specs.Compaction.{Answers, Compacts, Same}
use Rattle.bg_rollout.specs.Compaction.{with_compacted}

pub map-same : {X : Type 0} (f g : ℕ → X) → ((r : ℕ) → f r ≡ g r) → (xs : List ℕ) → map f xs ≡ map g xs
map-same f g h [] = refl
map-same f g h (x ∷ xs) = rw (h x, map-same f g h xs) refl

pub lists-same : (s : Strategy) (o : Opening) (a b : List Entry) → Same s o a b → lists_of a ≡ lists_of b
lists-same s o a b h =
    map-same (λ r. record { revision = r; requests = requests_at r a }) (λ r. record { revision = r; requests = requests_at r b }) (λ r. rw h.held refl) (existing a)
    ∙ ap (map (λ r. record { revision = r; requests = requests_at r b })) h.alike.exist

pub revisions-same : (s : Strategy) (o : Opening) (a b : List Entry) → Same s o a b → revisions_of s o a ≡ revisions_of s o b
revisions-same s o a b h =
    map-same (revision_of s o a) (revision_of s o b) (λ r. rw (h.alike.size r, h.alike.reported r, h.alike.templates r) refl) (existing a)
    ∙ ap (map (revision_of s o b)) h.alike.exist

revision-same : (s : Strategy) (o : Opening) (a b : List Entry) → Same s o a b → table_of s a ≡ table_of s b → (r : ℕ) → revision_state s o a r ≡ revision_state s o b r
revision-same s o a b h table r =
    let v : revision_of s o a r ≡ revision_of s o b r = rw (h.alike.size r, h.alike.reported r, h.alike.templates r) refl in
    let q : requests_at r a ≡ requests_at r b = rw h.held refl in
    ap (λ x. record { revision = x; deadline = deadline_in (table_of s a) r; requests = requests_at r a }) v
    ∙ ap (λ (t : Table). record { revision = revision_of s o b r; deadline = deadline_in t r; requests = requests_at r a }) table
    ∙ ap (λ x. record { revision = revision_of s o b r; deadline = deadline_in (table_of s b) r; requests = x }) q

phase-same : (s : Strategy) (o : Opening) (a b : List Entry) → Same s o a b → Answers s o a b → phase_of s a ≡ phase_of s b
phase-same s o a b h x = rw (x.post, x.sizing, x.paused, x.pre, x.scaling, x.steady, h.alike.halted) refl

selectors-same : (s : Strategy) (o : Opening) (a b : List Entry) → Same s o a b → Answers s o a b → selectors_of a ≡ selectors_of b
selectors-same s o a b h x = rw (h.alike.active, x.preview, h.alike.stable, h.alike.newest) refl

pub seats-same : (closed new : List ℕ) (a b : List Entry) → ((i : ℕ) → seat_of closed i a ≡ seat_of new i b) → (i n : ℕ) → seats_from closed a i n ≡ seats_from new b i n
seats-same closed new a b same i zero = refl
seats-same closed new a b same i (suc n) =
    ap (λ (v : Holding). v ∷ seats_from closed a (i + 1) n) (same i)
    ∙ ap (λ (vs : List Holding). seat_of new i b ∷ vs) (seats-same closed new a b same (i + 1) n)

seat-same : (closed new : List ℕ) (a b : List Entry) → open_requests a ≡ open_requests b → (i : ℕ) → calls_of closed i a ≡ calls_of new i b → seat_of closed i a ≡ seat_of new i b
seat-same closed new a b held i calls =
    ap (λ y. seated i (calls_of closed i a) (find (λ q. q.seat == i) y)) held
    ∙ ap (λ n. seated i n (held_by i b)) calls

-- the states of two pasts that give the same answers
pub states-same : (s : Strategy) (o : Opening) (closed new : List ℕ) (a b : List Entry) → Same s o a b → Answers s o a b → table_of s a ≡ table_of s b
    → ((i : ℕ) → calls_of closed i a ≡ calls_of new i b) → state_of s o closed a ≡ state_of s o new b
states-same s o closed new a b h x table calls =
    let revisions =
    map-same (revision_state s o a) (revision_state s o b) (revision-same s o a b h table) (existing a)
    ∙ ap (map (revision_state s o b)) h.alike.exist in
    let seats = seats-same closed new a b (λ i. seat-same closed new a b h.held i (calls i)) 0 o.seats in
    ap (λ (m : ℕ). record (state_of s o closed a) { moment = m }) h.now
    ∙ ap (λ p. record (state_of s o closed a) { moment = moment b; phase = p }) (phase-same s o a b h x)
    ∙ ap (λ y. record (state_of s o closed a) { moment = moment b; phase = phase_of s b; selectors = y }) (selectors-same s o a b h x)
    ∙ ap (λ vs. record (state_of s o closed b) { revisions = vs; seats = seats_from closed a 0 o.seats }) revisions
    ∙ ap (λ (vs : List Holding). record (state_of s o closed b) { seats = vs }) seats

pub routing-holds_invariant : ((s : Strategy) (o : Opening) (past : List Entry) → table_of s (compacted past) ≡ table_of s past)
    → (b : Routing) → Compacts b.strategy b.opening b.closed b.past → RoutingInvariant b → RoutingInvariant (with_compacted b)
routing-holds_invariant table b c h =
    let held : open_requests b.past ≡ open_requests (compacted b.past) = c.same.held in
    record {
      legal = c.legal;
      running = h.running
          ∙ states-same b.strategy b.opening b.closed (closed_after b.past b.closed) b.past (compacted b.past) c.same c.answers
          (sym (table b.strategy b.opening b.past)) (λ i. sym (c.calls i));
      lists = h.lists ∙ lists-same b.strategy b.opening b.past (compacted b.past) c.same;
      seats = record {
        count = h.seats.count;
        each = λ i lt. h.seats.each i lt ∙ ap Some (seat-same b.closed (closed_after b.past b.closed) b.past (compacted b.past) held i (sym (c.calls i)));
      };
      requests = record {
        differ = subst Differ held h.requests.differ;
        given = ap (λ n. list_all (has_number n) (open_requests (compacted b.past))) c.given ∙ ap (list_all (has_number (given b.closed b.past))) (sym held) ∙ h.requests.given;
      };
      entries = h.entries;
      numbers = h.numbers;
      spent = omega (arith, h.spent, c.given);
    }

pub represents_compacted : ((s : Strategy) (o : Opening) (past : List Entry) → table_of s (compacted past) ≡ table_of s past)
    → (b : Routing) (k : RunningParts) → Compacts b.strategy b.opening b.closed b.past → PartsRepresent b k → PartsRepresent (with_compacted b) k
represents_compacted table b k c h =
    let a = c.same.alike in
    let t = c.answers.attempted in
    record {
      routing = routing-holds_invariant table b c h.routing;
      core = record {
        replicas_is = h.core.replicas_is;
        preview_replicas_is = h.core.preview_replicas_is;
        auto_promotion_is = h.core.auto_promotion_is;
        auto_seconds_is = h.core.auto_seconds_is;
        pre_is = h.core.pre_is;
        post_is = h.core.post_is;
        running_is = h.core.running_is ∙ a.running;
        halted_is = h.core.halted_is ∙ a.halted;
        ready_is = h.core.ready_is ∙ t.ready;
        resumed_is = h.core.resumed_is ∙ t.resumed;
        switched_is = h.core.switched_is ∙ t.switched;
        promote_given_is = h.core.promote_given_is ∙ t.promote;
        promote_full_given_is = h.core.promote_full_given_is ∙ t.full;
        post_passed_is = h.core.post_passed_is ∙ t.success;
        passed_at_is = h.core.passed_at_is ∙ a.pass;
        active_is = h.core.active_is ∙ a.active;
        stable_is = h.core.stable_is ∙ a.stable;
        newest_is = h.core.newest_is ∙ a.newest;
      };
      revisions = h.revisions ∙ revisions-same b.strategy b.opening b.past (compacted b.past) c.same;
      replicas = h.replicas;
      last = h.last ∙ a.last;
      deadlines = h.deadlines ∙ sym (table b.strategy b.opening b.past);
      moment = h.moment ∙ c.same.now;
      given = h.given ∙ sym c.given;
      open_is = h.open_is ∙ ap length c.same.held;
    }
