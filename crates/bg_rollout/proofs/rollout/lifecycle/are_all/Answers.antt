use Rattle.std.proofs.Common.{◌≡◌, sym, ◌∙◌, arith}
use Rattle.std.proofs.lemmas.Option.{slice_get_within}
use Rattle.bg_rollout.proofs.SeatRecords.Sequence.{at_place, count_from, each_from, from_each, fails, one_more}
use Rattle.bg_rollout.proofs.rollout.lifecycle.are_all.Goals as goal

pub returns-then-seats-count : goal.returns-then-seats-count
returns-then-seats-count g c = sym (fails _ (λ h. c.if-seats-count.true (omega (arith, count_from 0 c.args.count c.args.seats.now h))))

pub returns-then-index-place : goal.returns-then-index-place
returns-then-index-place g c =
    let p = c.loop-place.place in
    let get = at_place c.args.seats.now p c.index-seats-place.result c.index-seats-place.is (omega (arith, c.loop-place-test.true, c.if-seats-count.false)) in
    sym (fails _ (λ h. c.if-index-place.true (omega (arith, c.index.ensures.index, from_each 0 c.args.count c.args.seats.now h p c.index-seats-place.result get))))

pub loop-place-preserved : goal.loop-place-preserved
loop-place-preserved g c =
    let p = c.loop-place.place in
    let get = at_place c.args.seats.now p c.index-seats-place.result c.index-seats-place.is (omega (arith, c.loop-place-test.true, c.if-seats-count.false)) in
    one_more (λ k s. s.index ≡ k) c.args.seats.now p c.index-seats-place.result get (sym c.index.ensures.index ∙ c.if-index-place.false) c.loop-place.invariant

pub returns : goal.returns
returns g c =
    sym (each_from 0 c.args.count c.args.seats.now (omega (arith, c.if-seats-count.false))
    (λ k s get. omega (arith, c.loop-place.invariant k s (omega (arith, slice_get_within c.args.seats.now k s get, c.if-seats-count.false, c.loop-place-test.false)) get)))
