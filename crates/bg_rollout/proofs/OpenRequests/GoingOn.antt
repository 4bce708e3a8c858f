-- Whether the request of a seat goes on, by the seat's record.
use Rattle.std.proofs.Common.{◌≡◌, ◌≢◌, ℕ, Bool, true, false, cond, nat_lt, slice_get, Option, Some, sym, ap, ◌∙◌, arith}
use Rattle.std.proofs.lemmas.Bool.Decides.{nat_tests}
use Rattle.bg_history.specs.Requests.{Request}
use Rattle.bg_ledger.specs.declared.holding.Holding.{Holding}
use Rattle.bg_rollout.specs.declared.go_on.GoOn.TheVariants.{Cut, Keep}
use Rattle.bg_rollout.specs.Invariant.{RoutingInvariant}
use Rattle.bg_rollout.specs.PastState.{goes_on, goes_on_with, is_past_limit}
use Rattle.bg_rollout.specs.Routing.{Routing}
use Rattle.bg_rollout.proofs.SeatRecords.Seating.{in_holds, out_holds_none}

is_out : (n : ℕ) (is_in : Bool) → is_in ≡ nat_lt 0 n → is_in ≡ false → n ≡ 0
is_out n is_in is outside = grind (arith, nat_tests)

is_within : (n : ℕ) (is_in : Bool) → is_in ≡ nat_lt 0 n → is_in ≡ true → n ≢ 0
is_within n is_in is within = λ none. absurd (grind (arith, nat_tests))

-- a seat without a request has none to end
pub out_goes_on : (b : Routing) (seat at : Holding) (is_in : Bool) → RoutingInvariant b → slice_get b.seats seat.index ≡ Some seat
    → at ≡ seat → is_in ≡ nat_lt 0 at.number → is_in ≡ false → Keep ≡ goes_on b.strategy seat.index b.past
out_goes_on b seat at is_in represents known same is outside =
    let none : seat.number ≡ 0 = sym (ap (λ (v : Holding). v.number) same) ∙ is_out at.number is_in is outside in
    ap (λ (held : Option Request). goes_on_with b.strategy held b.past) (sym (out_holds_none b seat represents known none))

-- the request of a seat has to end if the drain limit of its revision is over
pub in_goes_on : (b now : Routing) (seat at : Holding) (r : ℕ) (is_in answer told : Bool) → RoutingInvariant b → slice_get b.seats seat.index ≡ Some seat
    → now ≡ b → at ≡ seat → is_in ≡ nat_lt 0 at.number → is_in ≡ true → r ≡ at.revision
    → answer ≡ is_past_limit now.strategy r now.past → answer ≡ told → cond told Cut Keep ≡ goes_on b.strategy seat.index b.past
in_goes_on b now seat at r is_in answer told represents known same same_seat is within read judged said =
    let some : seat.number ≢ 0 = λ none. is_within at.number is_in is within (ap (λ (v : Holding). v.number) same_seat ∙ none) in
    let holds = in_holds b seat represents known some in
    let revision : r ≡ holds.0.revision = read ∙ ap (λ (v : Holding). v.revision) same_seat ∙ sym holds.1.revision in
    let limit : told ≡ is_past_limit b.strategy holds.0.revision b.past =
    sym said ∙ judged ∙ ap (λ (v : Routing). is_past_limit v.strategy r v.past) same ∙ ap (λ (n : ℕ). is_past_limit b.strategy n b.past) revision in
    ap (λ (t : Bool). cond t Cut Keep) limit
    ∙ ap (λ (held : Option Request). goes_on_with b.strategy held b.past) (sym holds.1.held)
