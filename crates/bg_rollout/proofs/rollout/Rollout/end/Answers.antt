use Rattle.std.proofs.Common.{◌≡◌, None, List, slice_get, sym, ap, ◌∙◌, subst, arith}
use Rattle.bg_history.specs.Requests.{held_by, calls_of}
use Rattle.bg_ledger.specs.declared.holding.Holding.{Holding}
use Rattle.bg_rollout.specs.Gathering.{gather_fault}
use Rattle.bg_rollout.specs.Invariant.{RolloutModel, PartsRepresent, model_of, parts_of}
use Rattle.bg_rollout.proofs.SeatRecords.Gathered.{none_open, record_is, seated_calls, seated_index}
use Rattle.bg_rollout.proofs.SeatRecords.Sequence.{all_out, count_from, from_each, gathers}
use Rattle.bg_rollout.proofs.rollout.Rollout.end.Goals as goal

none_inside : (inside now : RolloutModel) (seats : List Holding) → inside ≡ now → gather_fault now.routing.opening.seats seats ≡ None → gather_fault inside.routing.opening.seats seats ≡ None
none_inside inside now seats is none = subst (λ (m : RolloutModel). gather_fault m.routing.opening.seats seats ≡ None) (sym is) none

pub reunite_all-requires-clause-count : goal.reunite_all-requires-clause-count
reunite_all-requires-clause-count g c =
    let b = (model_of c.self.inside).routing in
    let represents : PartsRepresent b (parts_of c.self.inside) = c.self.invariant in
    let none = none_inside _ _ c.args.seats.items c.self.view_is c.requires in
    omega (arith, represents.routing.seats.count, count_from 0 b.opening.seats c.args.seats.items (gathers _ c.args.seats.items none).0)

pub reunite_all-requires-clause-index : goal.reunite_all-requires-clause-index
reunite_all-requires-clause-index g c i r s get_r get_s =
    let b = (model_of c.self.inside).routing in
    let represents : PartsRepresent b (parts_of c.self.inside) = c.self.invariant in
    let none = none_inside _ _ c.args.seats.items c.self.view_is c.requires in
    omega (
      arith,
      ap (λ (w : Holding). w.index) (record_is b i r represents.routing get_r),
      seated_index i (calls_of b.closed i b.past) (held_by i b.past),
      from_each 0 b.opening.seats c.args.seats.items (gathers _ c.args.seats.items none).0 i s get_s,
    )

pub returns-clause-none_open : goal.returns-clause-none_open
returns-clause-none_open g c =
    let b = (model_of c.self.inside).routing in
    let represents : PartsRepresent b (parts_of c.self.inside) = c.self.invariant in
    let none = none_inside _ _ c.args.seats.items c.self.view_is c.requires in
    none_open b represents.routing
    (λ i h. all_out c.args.seats.items (gathers _ c.args.seats.items none).1 i _ (ap (λ (xs : List Holding). slice_get xs i) (sym c.reunite_all.ensures) ∙ represents.routing.seats.each i h))

pub returns-clause-calls : goal.returns-clause-calls
returns-clause-calls g c i seat get =
    let b = (model_of c.self.inside).routing in
    let represents : PartsRepresent b (parts_of c.self.inside) = c.self.invariant in
    ap (λ (w : Holding). w.calls) (record_is b i seat represents.routing (ap (λ (xs : List Holding). slice_get xs i) c.reunite_all.ensures ∙ get))
    ∙ seated_calls i (calls_of b.closed i b.past) (held_by i b.past)
