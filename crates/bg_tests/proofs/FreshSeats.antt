-- Seats of a book that was just opened hold no request.
use Rattle.std.proofs.Common.{◌≡◌, ℕ, List, length, ◌<◌, Some, ap, arith}
use Rattle.std.specs.Prelude.{slice_get}
use Rattle.std.proofs.lemmas.Option.{slice_get_within}
use Rattle.bg_ledger.specs.Holdings.{fresh}
use Rattle.bg_ledger.specs.declared.holding.Holding.{Holding}
use Rattle.bg_rollout.specs.Changes.{NewSeats}
use Rattle.bg_book.specs.Runs.{AreOut}

pub fresh_are_out : (count : ℕ) (seats : List Holding) → NewSeats count seats → AreOut seats
fresh_are_out count seats made i seat at =
    let within : i < length seats = slice_get_within seats i seat at in
    let below : i < count = omega (arith, within, made.count_is) in
    let is : slice_get seats i ≡ Some (fresh i) = made.each i below in
    let same : seat ≡ fresh i = cc in
    ap (λ (h : Holding). h.number) same
