-- A part of the totals may change, and free places add nothing.
use Rattle.std.proofs.Common.{◌≡◌, ℕ, ◌*◌, ◌<◌, ◌≤◌, cond, true, false, List, ◌++◌, length, replicate, sum_by}
use Rattle.std.proofs.Common.{Option, Some, None, ap, arith}
use Rattle.std.proofs.lemmas.List.Folds.{sum_by-replicate}
use Rattle.std.proofs.lemmas.List.Sums.{get_or-le-sum_by, sum_by-append}
use Rattle.bg_load.proofs.Sums.{sum_by-le-length}
use Rattle.bg_load.specs.Registers.{at}
use Rattle.bg_load.specs.Totals.{AreSums, CanChange, CanTurn, activity_totals, connections_of, inside_of, load_totals, paused_of}
use Rattle.bg_load.specs.Totals.{place_totals, request_bytes_of, response_bytes_of, waiting_bytes_of}
use Rattle.bg_load.specs.declared.activity.Activity.{Activity}
use Rattle.bg_load.specs.declared.activity.Activity.TheVariants as activity
use Rattle.bg_load.specs.declared.connection.Connection.{Connection}
use Rattle.bg_load.specs.declared.load.Load.{Load}
use Rattle.bg_load.specs.declared.totals.Totals.{Totals}

abbrev most : ℕ
most = 1099511627776

-- each part of these totals is so small that a table of them fits
record AreSmall (totals : Totals) : Type 0 where
  pub connections : totals.connections ≤ most
  pub inside : totals.inside ≤ most
  pub request_bytes : totals.request_bytes ≤ most
  pub waiting_bytes : totals.waiting_bytes ≤ most
  pub response_bytes : totals.response_bytes ≤ most
  pub paused : totals.paused ≤ most

activity-small : (a : Activity) → AreSmall (activity_totals a)
activity-small activity.Idle = record { connections = omega arith; inside = omega arith; request_bytes = omega arith; waiting_bytes = omega arith; response_bytes = omega arith; paused = omega arith }
activity-small (activity.Arriving bytes) = record { connections = omega arith; inside = omega arith; request_bytes = omega arith; waiting_bytes = omega arith; response_bytes = omega arith; paused = omega arith }
activity-small (activity.Waiting bytes) = record { connections = omega arith; inside = omega arith; request_bytes = omega arith; waiting_bytes = omega arith; response_bytes = omega arith; paused = omega arith }
activity-small activity.Inside = record { connections = omega arith; inside = omega arith; request_bytes = omega arith; waiting_bytes = omega arith; response_bytes = omega arith; paused = omega arith }
activity-small (activity.Answering weight written) = record { connections = omega arith; inside = omega arith; request_bytes = omega arith; waiting_bytes = omega arith; response_bytes = omega arith; paused = omega arith }
activity-small (activity.Lingering bytes) = record { connections = omega arith; inside = omega arith; request_bytes = omega arith; waiting_bytes = omega arith; response_bytes = omega arith; paused = omega arith }

load-small : (load : Load) → AreSmall (load_totals load)
load-small load =
    let small = activity-small load.activity in
    record {
      connections = small.connections;
      inside = small.inside;
      request_bytes = small.request_bytes;
      waiting_bytes = small.waiting_bytes;
      response_bytes = small.response_bytes;
      paused = elim load.is_paused as (λ b. cond b 1 0 ≤ most) [ true ↦ omega arith | false ↦ omega arith ];
    }

place-small : (p : Option Connection) → AreSmall (place_totals p)
place-small None = record { connections = omega arith; inside = omega arith; request_bytes = omega arith; waiting_bytes = omega arith; response_bytes = omega arith; paused = omega arith }
place-small (Some c) = load-small c.load

-- a part of a sum may change
can_turn : (f : Option Connection → ℕ) → ((p : Option Connection) → f p ≤ most) → (total : ℕ)
    → (places : List (Option Connection)) (key : ℕ) (p : Option Connection) → total ≡ sum_by f places
    → length places ≤ 1048576 → key < length places → CanTurn total (f (at places key)) (f p)
can_turn f le total places key p is short less =
    let part_in = get_or-le-sum_by f places key None less in
    let bound = sum_by-le-length f most le places in
    let own = le p in
    record { part = omega arith; fits = omega arith }

pub can_change : (totals : Totals) (places : List (Option Connection)) (key : ℕ) (p : Option Connection)
    → AreSums totals places → length places ≤ 1048576 → key < length places
    → CanChange totals (place_totals (at places key)) (place_totals p)
can_change totals places key p sums short less = record {
  connections = can_turn connections_of (λ q. (place-small q).connections) totals.connections places key p sums.connections short less;
  inside = can_turn inside_of (λ q. (place-small q).inside) totals.inside places key p sums.inside short less;
  request_bytes = can_turn request_bytes_of (λ q. (place-small q).request_bytes) totals.request_bytes places key p sums.request_bytes short less;
  waiting_bytes = can_turn waiting_bytes_of (λ q. (place-small q).waiting_bytes) totals.waiting_bytes places key p sums.waiting_bytes short less;
  response_bytes = can_turn response_bytes_of (λ q. (place-small q).response_bytes) totals.response_bytes places key p sums.response_bytes short less;
  paused = can_turn paused_of (λ q. (place-small q).paused) totals.paused places key p sums.paused short less;
}

-- free places add nothing
pub more_sum : (f : Option Connection → ℕ) → f None ≡ 0 → (places : List (Option Connection)) (count : ℕ)
    → sum_by f (places ++ replicate count None) ≡ sum_by f places
more_sum f none places count =
    let both = sum_by-append f places (replicate count None) in
    let free = sum_by-replicate f count None in
    let zeros : count * f None ≡ count * 0 = ap (λ n. count * n) none in
    omega arith
