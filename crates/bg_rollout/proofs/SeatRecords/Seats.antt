-- The record of each seat, after a request enters or leaves.
use Rattle.std.proofs.Common.{◌≡◌, ◌≢◌, ℕ, zero, suc, ◌+◌, ◌*◌, ◌<◌, Bool, true, false, cond, ◌==◌, List, [], ◌∷◌, length, find, slice_get, slice_set, slice_index, Option, Some, None, refl, sym, ap, ◌∙◌, subst, arith, get_or-set_same}
use Rattle.std.specs.Option.{option_or}
use Rattle.std.proofs.lemmas.Bool.Decides.{nat_tests}
use Rattle.std.proofs.lemmas.List.Folds.{find-append}
use Rattle.std.proofs.lemmas.List.{length-set}
use Rattle.std.proofs.lemmas.Option.{slice_get-get_or}
use Rattle.bg_revisions.specs.declared.revision.Service.{Service}
use Rattle.bg_history.specs.declared.entry.Entry.{Entry}
use Rattle.bg_history.specs.declared.entry.Entry.TheVariants.{Enter, Leave}
use Rattle.bg_history.specs.Kept.{Opening}
use Rattle.bg_history.specs.Requests.{Request, open_requests, held_by, calls_in, calls_of}
use Rattle.bg_ledger.specs.declared.holding.Holding.{Holding}
use Rattle.bg_rollout.specs.PastState.{seated, seat_of, SeatsInvariant}
use Rattle.bg_rollout.specs.Invariant.{Differ}
use Rattle.bg_rollout.proofs.OpenRequests.Requests.{by_seat, finds_none_at, finds_same_at, eq_refl, eq_sym, eq_from}

pub get-set_same : {X : Type 0} (xs : List X) (i : ℕ) (v : X) → i < length xs → slice_get (slice_set xs i v) i ≡ Some v
get-set_same xs i v h =
    slice_get-get_or (slice_set xs i v) i v (omega (arith, h, length-set xs i v)) ∙ ap Some (get_or-set_same xs i v v h)

pub get-set_other : {X : Type 0} (xs : List X) (i j : ℕ) (v : X) → j ≢ i → slice_get (slice_set xs i v) j ≡ slice_get xs j
get-set_other [] i j v h = refl
get-set_other (x ∷ xs) zero zero v h = absurd (h refl)
get-set_other (x ∷ xs) zero (suc j) v h = refl
get-set_other (x ∷ xs) (suc i) zero v h = refl
get-set_other (x ∷ xs) (suc i) (suc j) v h = get-set_other xs i j v (λ e. h (ap suc e))

-- only seat i changes, and its new record is what the new past says
pub seats_one_changed : (o : Opening) (closed : List ℕ) (past new : List Entry) (seats : List Holding) (i : ℕ) (v : Holding)
    → SeatsInvariant o closed past seats → i < o.seats → v ≡ seat_of closed i new
    → ((j : ℕ) → (j == i) ≡ false → seat_of closed j new ≡ seat_of closed j past)
    → SeatsInvariant o closed new (slice_set seats i v)
seats_one_changed o closed past new seats i v represents within is same = record {
  count = length-set seats i v ∙ represents.count;
  each = λ j h. go j h (j == i) refl;
} where
  go : (j : ℕ) → j < o.seats → (b : Bool) → (j == i) ≡ b → slice_get (slice_set seats i v) j ≡ Some (seat_of closed j new)
  go j h true e =
      let here : j ≡ i = eq_from j i e in
      subst (λ (k : ℕ). slice_get (slice_set seats i v) k ≡ Some (seat_of closed k new)) (sym here)
      (get-set_same seats i v (omega (arith, within, represents.count)) ∙ ap Some is)
  go j h false e =
      let other : j ≢ i = grind (arith, nat_tests) in
      get-set_other seats i j v other ∙ represents.each j h ∙ ap Some (sym (same j e))

pub held-Enter_same : (past : List Entry) (seat : ℕ) (service : Service) (number r port : ℕ) → held_by seat past ≡ None
    → held_by seat (Enter seat service number r port ∷ past) ≡ Some (record { seat = seat; number = number; revision = r; port = port })
held-Enter_same past seat service number r port none =
    find-append (λ (q : Request). q.seat == seat) (open_requests past) _
    ∙ ap (λ (x : Option Request). option_or x (cond (seat == seat) (Some (record { seat = seat; number = number; revision = r; port = port })) None)) none
    ∙ ap (λ b. cond b (Some (record { seat = seat; number = number; revision = r; port = port })) None) (eq_refl seat)

or_none : (x : Option Request) → option_or x None ≡ x
or_none None = refl
or_none (Some q) = refl

pub held-Enter_other : (past : List Entry) (seat i : ℕ) (service : Service) (number r port : ℕ) → (seat == i) ≡ false
    → held_by i (Enter seat service number r port ∷ past) ≡ held_by i past
held-Enter_other past seat i service number r port other =
    find-append (λ (q : Request). q.seat == i) (open_requests past) _
    ∙ ap (λ b. option_or (held_by i past) (cond b (Some (record { seat = seat; number = number; revision = r; port = port })) None)) other
    ∙ or_none (held_by i past)

pub held-Leave_same : (past : List Entry) (seat r : ℕ) (x : Request) → Differ (open_requests past) → held_by seat past ≡ Some x
    → held_by seat (Leave seat x.number r ∷ past) ≡ None
held-Leave_same past seat r x d h =
    ap (λ qs. find (λ (q : Request). q.seat == seat) qs) (by_seat seat (open_requests past) x d h) ∙ finds_none_at seat (open_requests past)

pub held-Leave_other : (past : List Entry) (seat i r : ℕ) (x : Request) → Differ (open_requests past) → held_by seat past ≡ Some x → (i == seat) ≡ false
    → held_by i (Leave seat x.number r ∷ past) ≡ held_by i past
held-Leave_other past seat i r x d h other =
    ap (λ qs. find (λ (q : Request). q.seat == i) qs) (by_seat seat (open_requests past) x d h) ∙ finds_same_at seat i (open_requests past) other

zero_plus : (n : ℕ) → 0 + n ≡ n
zero_plus n = omega arith

-- a seat's calls: one more after its own entry, the same after another seat's
pub seat-Enter_other : (closed : List ℕ) (past : List Entry) (seat i : ℕ) (service : Service) (number r port : ℕ) → (seat == i) ≡ false
    → seat_of closed i (Enter seat service number r port ∷ past) ≡ seat_of closed i past
seat-Enter_other closed past seat i service number r port other =
    ap (λ b. seated i (cond b 1 0 + calls_in i past + 2 * slice_index closed i) (held_by i (Enter seat service number r port ∷ past))) other
    ∙ ap (λ n. seated i (n + 2 * slice_index closed i) (held_by i (Enter seat service number r port ∷ past))) (zero_plus (calls_in i past))
    ∙ ap (seated i (calls_of closed i past)) (held-Enter_other past seat i service number r port other)

one_more : (n m : ℕ) → 1 + n + m ≡ n + m + 1
one_more n m = omega arith

pub seat-Enter_same : (closed : List ℕ) (past : List Entry) (seat : ℕ) (service : Service) (number r port : ℕ) → held_by seat past ≡ None
    → seat_of closed seat (Enter seat service number r port ∷ past)
    ≡ record { index = seat; calls = calls_of closed seat past + 1; number = number; revision = r; port = port }
seat-Enter_same closed past seat service number r port none =
    ap (λ b. seated seat (cond b 1 0 + calls_in seat past + 2 * slice_index closed seat) (held_by seat (Enter seat service number r port ∷ past))) (eq_refl seat)
    ∙ ap (λ n. seated seat n (held_by seat (Enter seat service number r port ∷ past))) (one_more (calls_in seat past) (2 * slice_index closed seat))
    ∙ ap (seated seat (calls_of closed seat past + 1)) (held-Enter_same past seat service number r port none)

pub seat-Leave_other : (closed : List ℕ) (past : List Entry) (seat i r : ℕ) (x : Request) → Differ (open_requests past) → held_by seat past ≡ Some x
    → (i == seat) ≡ false → seat_of closed i (Leave seat x.number r ∷ past) ≡ seat_of closed i past
seat-Leave_other closed past seat i r x d held other =
    ap (λ b. seated i (cond b 1 0 + calls_in i past + 2 * slice_index closed i) (held_by i (Leave seat x.number r ∷ past))) (eq_sym seat i ∙ other)
    ∙ ap (λ n. seated i (n + 2 * slice_index closed i) (held_by i (Leave seat x.number r ∷ past))) (zero_plus (calls_in i past))
    ∙ ap (seated i (calls_of closed i past)) (held-Leave_other past seat i r x d held other)

pub seat-Leave_same : (closed : List ℕ) (past : List Entry) (seat r : ℕ) (x : Request) → Differ (open_requests past) → held_by seat past ≡ Some x
    → seat_of closed seat (Leave seat x.number r ∷ past)
    ≡ record { index = seat; calls = calls_of closed seat past + 1; number = 0; revision = 0; port = 0 }
seat-Leave_same closed past seat r x d held =
    ap (λ b. seated seat (cond b 1 0 + calls_in seat past + 2 * slice_index closed seat) (held_by seat (Leave seat x.number r ∷ past))) (eq_refl seat)
    ∙ ap (λ n. seated seat n (held_by seat (Leave seat x.number r ∷ past))) (one_more (calls_in seat past) (2 * slice_index closed seat))
    ∙ ap (seated seat (calls_of closed seat past + 1)) (held-Leave_same past seat r x d held)

-- what the record of a seat says of its request
pub holds_none : (i calls : ℕ) (h : Option Request) (v : Holding) → seated i calls h ≡ v → v.number ≡ 0 → (x : Request) → h ≡ Some x → x.number ≡ 0
holds_none i calls None v e z x s = absurd (cc)
holds_none i calls (Some q) v e z x s = sym (ap (λ (p : Option Request). number_in p) s) ∙ ap (λ (w : Holding). w.number) e ∙ z where
  number_in : Option Request → ℕ
  number_in None = 0
  number_in (Some p) = p.number
