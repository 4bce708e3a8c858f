use Rattle.std.proofs.Common.{◌≡◌, ℕ, Bool, false, nat_lt, Some, sym, ap, ◌∙◌, arith}
use Rattle.std.proofs.lemmas.Bool.Decides.{nat_tests}
use Rattle.std.proofs.lemmas.Option.{slice_get_within, get_or_from_slice_get}
use Rattle.bg_ledger.specs.declared.holding.Holding.{Holding}
use Rattle.bg_rollout.specs.declared.fault.GatherFault.TheVariants.{StillIn}
use Rattle.bg_rollout.proofs.SeatRecords.Sequence.{at_place, first_at, none_in, one_more}
use Rattle.bg_rollout.proofs.rollout.lifecycle.first_in.Goals as goal

out_at : (n : ℕ) (b : Bool) → b ≡ nat_lt 0 n → b ≡ false → n ≡ 0
out_at n b is e = grind (arith, nat_tests)

pub returns-then-is_in : goal.returns-then-is_in
returns-then-is_in g c =
    let seats = c.args.seats.now in
    let p = c.loop-place.place in
    let s = c.index-seats-place.result in
    let get = at_place seats p s c.index-seats-place.is c.loop-place-test.true in
    let again : c.index-seats-place-then-is_in.result ≡ s = c.index-seats-place-then-is_in.is ∙ get_or_from_slice_get seats p s _ get in
    ap (λ (n : ℕ). Some (StillIn n)) (c.index.ensures.index ∙ ap (λ (w : Holding). w.index) again)
    ∙ sym (first_at seats p s get (sym c.is_in.ensures ∙ c.if-is_in.true) c.loop-place.invariant)

pub loop-place-preserved : goal.loop-place-preserved
loop-place-preserved g c =
    let seats = c.args.seats.now in
    let p = c.loop-place.place in
    let s = c.index-seats-place.result in
    one_more (λ k t. t.number ≡ 0) seats p s (at_place seats p s c.index-seats-place.is c.loop-place-test.true)
    (out_at s.number c.is_in.result c.is_in.ensures c.if-is_in.false) c.loop-place.invariant

pub returns : goal.returns
returns g c =
    let seats = c.args.seats.now in
    sym (none_in seats (λ k s get. c.loop-place.invariant k s (omega (arith, slice_get_within seats k s get, c.loop-place-test.false)) get))
