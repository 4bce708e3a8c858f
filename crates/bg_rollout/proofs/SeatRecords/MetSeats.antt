-- What a book and a seat that equals its record say of each other.
use Rattle.std.proofs.Common.{◌≡◌, ℕ, suc, Bool, true, false, cond, ◌==◌, ◌||◌, List, [], ◌∷◌, filter, find, map, slice_get, Some, refl, sym, ap, ◌∙◌, subst, arith}
use Rattle.std.specs.Prelude.{Contains}
use Rattle.std.specs.List.{list_any}
use Rattle.std.proofs.lemmas.Option.{same_Some}
use Rattle.bg_strategy.specs.Label.{is_label}
use Rattle.bg_revisions.specs.PortLists.{are_ports}
use Rattle.bg_history.specs.declared.entry.Entry.{Entry}
use Rattle.bg_history.specs.Requests.{Request, open_requests}
use Rattle.bg_history.specs.Sizes.{is_scaled}
use Rattle.bg_history.specs.Deadlines.{exists_in}
use Rattle.bg_history.specs.Steps.{all_allowed}
use Rattle.bg_history.specs.Templates.{template}
use Rattle.bg_history_laws.specs.Reachable.{Reachable, exists_scaled}
use Rattle.bg_ledger.specs.declared.holding.Holding.{Holding}
use Rattle.bg_rollout.specs.declared.request_lists.OpenRequest.{OpenRequest}
use Rattle.bg_rollout.specs.RequestLists.{OpenAt, requests_of}
use Rattle.bg_rollout.specs.PastState.{listed}
use Rattle.bg_rollout.specs.Invariant.{RoutingInvariant}
use Rattle.bg_rollout.specs.Meeting.{Meets, ports_in}
use Rattle.bg_rollout.specs.Routing.{Routing}
use Rattle.bg_rollout.proofs.OpenRequests.Leaving.{is_held}
use Rattle.bg_rollout.proofs.OpenRequests.Lists.{list_of_past}
use Rattle.bg_rollout.proofs.OpenRequests.Placed.{has_port, ported}
use Rattle.bg_rollout.proofs.OpenRequests.Requests.{and_parts, found_passes, eq_from, eq_refl}
use Rattle.bg_rollout.proofs.SeatRecords.Seating.{in_holds, seated_of}

contains_later : {X : Type 0} (xs : List X) (x y : X) → Contains xs x → Contains (y ∷ xs) x
contains_later xs x y (k, within, is) = (suc k, omega (arith, within), is)

-- a port that is found is one of the ports
contains_port : (ports : List ℕ) (port : ℕ) → list_any (λ p. p == port) ports ≡ true → Contains ports port
contains_port [] port h = absurd (cc)
contains_port (p ∷ ports) port h = go (p == port) refl h (contains_port ports port) where
  go : (b : Bool) → (p == port) ≡ b → (b || list_any (λ q. q == port) ports) ≡ true → (list_any (λ q. q == port) ports ≡ true → Contains ports port) → Contains (p ∷ ports) port
  go true e h later = (0, omega arith, eq_from p port e)
  go false e h later = contains_later ports port p (later h)

-- the request that a seat holds is in the list of its revision
contains_kept : (r : ℕ) (q x : Request) (rest : List Request) (b : Bool) → Contains (map listed (filter (λ p. p.revision == r) rest)) (listed x)
    → Contains (map listed (cond b (q ∷ filter (λ p. p.revision == r) rest) (filter (λ p. p.revision == r) rest))) (listed x)
contains_kept r q x rest true c = contains_later _ (listed x) (listed q) c
contains_kept r q x rest false c = c

contains_first : (r : ℕ) (q x : Request) (rest : List Request) (b : Bool) → (q.revision == r) ≡ b → q ≡ x → (x.revision == r) ≡ true
    → Contains (map listed (cond b (q ∷ filter (λ p. p.revision == r) rest) (filter (λ p. p.revision == r) rest))) (listed x)
contains_first r q x rest true e is there = (0, omega arith, ap listed is)
contains_first r q x rest false e is there = absurd (contradicts _ (sym (ap (λ (y : Request). y.revision == r) is) ∙ e) there) where
  contradicts : (b : Bool) → b ≡ false → b ≡ true → ⊥
  contradicts b f t = absurd (cc)

contains_listed : (seat r : ℕ) (qs : List Request) (x : Request) → find (λ q. q.seat == seat) qs ≡ Some x → (x.revision == r) ≡ true
    → Contains (map listed (filter (λ q. q.revision == r) qs)) (listed x)
contains_listed seat r [] x h there = absurd (cc)
contains_listed seat r (q ∷ rest) x h there = go (q.seat == seat) h (λ k. contains_listed seat r rest x k there) where
  go : (b : Bool) → cond b (Some q) (find (λ p. p.seat == seat) rest) ≡ Some x
      → (find (λ p. p.seat == seat) rest ≡ Some x → Contains (map listed (filter (λ p. p.revision == r) rest)) (listed x))
      → Contains (map listed (filter (λ p. p.revision == r) (q ∷ rest))) (listed x)
  go true h later = contains_first r q x rest (q.revision == r) refl (same_Some q x h) there
  go false h later = contains_kept r q x rest (q.revision == r) (later h)

-- the request that the seat holds, as the list has it
listed_is : (i number : ℕ) (x : Request) → x.seat ≡ i → x.number ≡ number → listed x ≡ record { seat = i; number = number }
listed_is i number x at is = ap (λ (n : ℕ). record { seat = n; number = x.number }) at ∙ ap (λ (n : ℕ). record { seat = i; number = n }) is

found_at : (seat : ℕ) (qs : List Request) (x : Request) → find (λ q. q.seat == seat) qs ≡ Some x → x.seat ≡ seat
found_at seat [] x h = absurd (cc)
found_at seat (q ∷ rest) x h = go (q.seat == seat) refl h (λ k. found_at seat rest x k) where
  go : (b : Bool) → (q.seat == seat) ≡ b → cond b (Some q) (find (λ p. p.seat == seat) rest) ≡ Some x → (find (λ p. p.seat == seat) rest ≡ Some x → x.seat ≡ seat) → x.seat ≡ seat
  go true e h later = sym (ap (λ (y : Request). y.seat) (same_Some q x h)) ∙ eq_from q.seat seat e
  go false e h later = later h

pub meets_of : (b : Routing) (seat : Holding) → RoutingInvariant b
    → ((past : List Entry) → all_allowed b.strategy b.opening past ≡ true → Reachable b.strategy b.opening past) → slice_get b.seats seat.index ≡ Some seat → Meets b seat
meets_of b seat represents reach known =
    let past = b.past in
    let here = reach past represents.legal.allowed in
    record {
      known = known;
      said = (seated_of b seat represents known).is;
      scaled = λ within.
          let holds = in_holds b seat represents known (is_held _ within) in
          let is_scaled_there : exists_scaled b.strategy holds.0.revision past ≡ true =
          found_passes (λ q. q.seat == seat.index) (λ q. exists_scaled b.strategy q.revision past) (open_requests past) holds.0 holds.1.held here.open_scaled in
          (and_parts (exists_in seat.revision past) (is_scaled b.strategy seat.revision past)
          (ap (λ (r : ℕ). exists_scaled b.strategy r past) (sym holds.1.revision) ∙ is_scaled_there)).1;
      listed = λ within.
          let holds = in_holds b seat represents known (is_held _ within) in
          let x = holds.0 in
          let r = seat.revision in
          let list : requests_of r b.lists ≡ map listed (filter (λ q. q.revision == r) (open_requests past)) =
          ap (λ (ls : List OpenAt). requests_of r ls) represents.lists ∙ list_of_past b.strategy past r here.open_scaled in
          let there : (x.revision == r) ≡ true = ap (λ (n : ℕ). n == r) holds.1.revision ∙ eq_refl r in
          subst (λ (xs : List OpenRequest). Contains xs (record { seat = seat.index; number = seat.number })) (sym list)
          (subst (λ (y : OpenRequest). Contains (map listed (filter (λ q. q.revision == r) (open_requests past))) y)
          (listed_is seat.index seat.number x (found_at seat.index (open_requests past) x holds.1.held) holds.1.number)
          (contains_listed seat.index r (open_requests past) x holds.1.held there));
      port = λ within.
          let holds = in_holds b seat represents known (is_held _ within) in
          let first = (and_parts (is_label b.opening.template.name) (are_ports b.strategy.replicas b.opening.template.ports)
          (and_parts _ _ (and_parts _ _ represents.legal.opening).0).0).1 in
          let there : has_port b.opening past holds.0 ≡ true =
          found_passes (λ q. q.seat == seat.index) (has_port b.opening past) (open_requests past) holds.0 holds.1.held
          (ported b.strategy b.opening past reach first represents.legal.allowed) in
          contains_port _ seat.port
          (ap (λ (n : ℕ). list_any (λ p. p == n) (ports_in (template b.opening seat.revision past))) (sym holds.1.port)
          ∙ ap (λ (r : ℕ). list_any (λ p. p == holds.0.port) (ports_in (template b.opening r past))) (sym holds.1.revision) ∙ there);
    }
