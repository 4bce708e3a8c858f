use Rattle.std.proofs.Common.{◌≡◌, ◌++◌, ◌∷◌, [], ℕ, length, slice_get, Option, Some, ap, ◌∙◌, subst, arith}
use Rattle.std.specs.Option.{option_to_list}
use Rattle.bg_ledger.specs.declared.holding.Holding.{Holding}
use Rattle.bg_rollout.proofs.SeatRecords.Sequence.{get_end, length_end}
use Rattle.bg_rollout.proofs.rollout.lifecycle.reunite_all.Goals as goal

pub reunite-requires : goal.reunite-requires
reunite-requires g c =
    let rest = c.loop-record.invariant.0 in
    let whole = c.loop-record.invariant.1 in
    let rs = c.pop.new.self.items in
    let ss = c.pop-in-Some.new.self.items in
    let r = c.in-Some.record in
    let s = c.unwrap-seat.result in
    let end_r : c.loop-record.records.items ≡ rs ++ r ∷ [] = c.pop.ensures.items ∙ ap (λ (o : Option Holding). rs ++ option_to_list o) c.in-Some.is in
    let end_s : c.loop-record.seats.items ≡ ss ++ s ∷ [] = c.pop-in-Some.ensures.items ∙ ap (λ (o : Option Holding). ss ++ option_to_list o) c.unwrap-seat.ensures in
    let same : length ss ≡ length rs =
    omega (arith, c.requires.count, length_end _ _ rs rest r whole.0 end_r, length_end _ _ ss rest s whole.1 end_s) in
    c.requires.index (length rs) r s (get_end _ _ rs rest r whole.0 end_r)
    (subst (λ (n : ℕ). slice_get c.args.seats.items n ≡ Some s) same (get_end _ _ ss rest s whole.1 end_s))
