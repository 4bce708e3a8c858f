use Rattle.std.proofs.Common.{Bor, ◌≡◌, ℕ, ◌+◌, ◌*◌, ◌%◌, ◌<◌, ◌≤◌, length, Option, Some, None, slice_index, refl, subst, sym, ap, ◌∙◌, arith, mod-lt}
use Rattle.std.specs.Option.{option_copied, IsSome}
use Rattle.std.proofs.lemmas.Option.{same_Some}
use Rattle.bg_revisions.specs.declared.revision.Revision.{Revision}
use Rattle.bg_revisions.specs.declared.revision.Service.{Service}
use Rattle.bg_revisions.specs.Rosters.{numbered, IsRoster}
use Rattle.bg_history.specs.Sizes.{available}
use Rattle.bg_history.specs.Allowed.{selection}
use Rattle.bg_history_laws.specs.Listed.{revision_of}
use Rattle.bg_history_laws.specs.Reachable.{Reachable}
use Rattle.bg_rollout.specs.declared.ticket.Ticket.{Ticket}
use Rattle.bg_rollout.specs.declared.fault.EnterFault.{EnterFault}
use Rattle.bg_rollout.specs.Refusals.{all_open, enter_refusal, IsTicket}
use Rattle.bg_rollout.specs.Invariant.{RolloutModel, PartsRepresent, model_of, parts_of}
use Rattle.bg_rollout.proofs.ControlEvents.Events.{found_there, has}
use Rattle.bg_rollout.proofs.OpenRequests.JudgedEnters.{selected_exists, ports_count, port_is, refused_endpoints, refused_numbers, refused_full, not_refused}
use Rattle.bg_rollout.proofs.rollout.Rollout.judge_enter.Goals as goal

-- the selected revision, in the fields of the rollout
selected_inside : (inside now : RolloutModel) (service : Service) (r : ℕ) → inside ≡ now → selection now.routing.strategy service now.routing.past ≡ Some r → selection inside.routing.strategy service inside.routing.past ≡ Some r
selected_inside inside now service r is h = subst (λ (m : RolloutModel). selection m.routing.strategy service m.routing.past ≡ Some r) (sym is) h

some_copied : (x : Option (Bor Revision)) (v : Revision) → option_copied x ≡ Some v → IsSome x
some_copied None v h = absurd (cc)
some_copied (Some x) v h = refl

pub unwrap-revision-requires : goal.unwrap-revision-requires
unwrap-revision-requires g c =
    let b = (model_of c.self.inside).routing in
    let represents : PartsRepresent b (parts_of c.self.inside) = c.self.invariant in
    let reach : Reachable b.strategy b.opening b.past = c.reachable.ensures b.strategy b.opening b.past represents.routing.legal.allowed in
    let r = c.in_ok-selected.selected in
    let selected = selected_inside _ _ c.args.service r c.self.view_is c.in_ok-selected.ensures in
    some_copied c.find_number.result _
    (c.find_number.ensures
    ∙ found_there b.strategy b.opening b.past r _ represents.revisions (c.finds.ensures.number b.strategy b.opening b.past r) (selected_exists b.strategy b.opening b.past c.args.service r reach selected))

-- the revision that is found has what the past says
offered : {N : Type 0} (inside : Rattle.bg_rollout.specs.declared.rollout.Rollout.TheInside.Inside N) (r : ℕ) (v : Revision) → PartsRepresent (model_of inside).routing (parts_of inside) → numbered r inside.roster.revisions ≡ Some (revision_of inside.strategy inside.history.opening inside.history.past r)
    → numbered r inside.roster.revisions ≡ Some v → v ≡ revision_of inside.strategy inside.history.opening inside.history.past r
offered inside r v represents was found = same_Some _ _ (sym found ∙ was)

-- the fault in terms of the rollout before the call
refused_now : (inside now : RolloutModel) (service : Service) (f : EnterFault) → inside ≡ now → enter_refusal inside.routing service ≡ Some f → enter_refusal now.routing service ≡ Some f
refused_now inside now service f is h = subst (λ (m : RolloutModel). enter_refusal m.routing service ≡ Some f) is h

pub returns-then-revision-eq0-clause-judged : goal.returns-then-revision-eq0-clause-judged
returns-then-revision-eq0-clause-judged g c =
    let b = (model_of c.self.inside).routing in
    let represents : PartsRepresent b (parts_of c.self.inside) = c.self.invariant in
    let reach : Reachable b.strategy b.opening b.past = c.reachable.ensures b.strategy b.opening b.past represents.routing.legal.allowed in
    let r = c.in_ok-selected.selected in
    let selected = selected_inside _ _ c.args.service r c.self.view_is c.in_ok-selected.ensures in
    let there = found_there b.strategy b.opening b.past r _ represents.revisions (c.finds.ensures.number b.strategy b.opening b.past r) (selected_exists b.strategy b.opening b.past c.args.service r reach selected) in
    let v = c.unwrap-revision.result.now in
    let found : numbered r c.self.inside.roster.revisions ≡ Some v = sym c.find_number.ensures ∙ ap option_copied c.unwrap-revision.ensures in
    let here : v ≡ revision_of b.strategy b.opening b.past r = offered c.self.inside r v represents there found in
    let size : v.available ≡ available r b.past = ap (λ (w : Revision). w.available) here ∙ has b.strategy b.opening b.past r in
    refused_now _ _ c.args.service _ c.self.view_is (refused_endpoints b c.args.service r selected (sym size ∙ c.if-revision-eq0.true))

pub returns-then-self-clause-judged : goal.returns-then-self-clause-judged
returns-then-self-clause-judged g c =
    let b = (model_of c.self.inside).routing in
    let represents : PartsRepresent b (parts_of c.self.inside) = c.self.invariant in
    let reach : Reachable b.strategy b.opening b.past = c.reachable.ensures b.strategy b.opening b.past represents.routing.legal.allowed in
    let r = c.in_ok-selected.selected in
    let selected = selected_inside _ _ c.args.service r c.self.view_is c.in_ok-selected.ensures in
    let there = found_there b.strategy b.opening b.past r _ represents.revisions (c.finds.ensures.number b.strategy b.opening b.past r) (selected_exists b.strategy b.opening b.past c.args.service r reach selected) in
    let v = c.unwrap-revision.result.now in
    let found : numbered r c.self.inside.roster.revisions ≡ Some v = sym c.find_number.ensures ∙ ap option_copied c.unwrap-revision.ensures in
    let here : v ≡ revision_of b.strategy b.opening b.past r = offered c.self.inside r v represents there found in
    let size : v.available ≡ available r b.past = ap (λ (w : Revision). w.available) here ∙ has b.strategy b.opening b.past r in
    refused_now _ _ c.args.service _ c.self.view_is (refused_numbers b c.args.service r selected (λ e. c.if-revision-eq0.false (size ∙ e)) (omega (arith, represents.given, c.if-self.true)))

pub returns-then-len-places_kept-clause-judged : goal.returns-then-len-places_kept-clause-judged
returns-then-len-places_kept-clause-judged g c =
    let b = (model_of c.self.inside).routing in
    let represents : PartsRepresent b (parts_of c.self.inside) = c.self.invariant in
    let reach : Reachable b.strategy b.opening b.past = c.reachable.ensures b.strategy b.opening b.past represents.routing.legal.allowed in
    let r = c.in_ok-selected.selected in
    let selected = selected_inside _ _ c.args.service r c.self.view_is c.in_ok-selected.ensures in
    let there = found_there b.strategy b.opening b.past r _ represents.revisions (c.finds.ensures.number b.strategy b.opening b.past r) (selected_exists b.strategy b.opening b.past c.args.service r reach selected) in
    let v = c.unwrap-revision.result.now in
    let found : numbered r c.self.inside.roster.revisions ≡ Some v = sym c.find_number.ensures ∙ ap option_copied c.unwrap-revision.ensures in
    let here : v ≡ revision_of b.strategy b.opening b.past r = offered c.self.inside r v represents there found in
    let size : v.available ≡ available r b.past = ap (λ (w : Revision). w.available) here ∙ has b.strategy b.opening b.past r in
    let kept : c.places_kept.result ≡ 3 * all_open b.past = c.places_kept.ensures ∙ ap (λ (m : RolloutModel). 3 * all_open m.routing.past) (sym c.self.view_is) in
    refused_now _ _ c.args.service _ c.self.view_is
    (refused_full b c.args.service r selected (λ e. c.if-revision-eq0.false (size ∙ e)) (omega (arith, represents.given, c.if-self.false)) (omega (arith, kept, c.len.ensures, c.if-len-places_kept.true)))

pub bounds-get-port_place : goal.bounds-get-port_place
bounds-get-port_place g c =
    let b = (model_of c.self.inside).routing in
    let represents : PartsRepresent b (parts_of c.self.inside) = c.self.invariant in
    let reach : Reachable b.strategy b.opening b.past = c.reachable.ensures b.strategy b.opening b.past represents.routing.legal.allowed in
    let r = c.in_ok-selected.selected in
    let selected = selected_inside _ _ c.args.service r c.self.view_is c.in_ok-selected.ensures in
    let there = found_there b.strategy b.opening b.past r _ represents.revisions (c.finds.ensures.number b.strategy b.opening b.past r) (selected_exists b.strategy b.opening b.past c.args.service r reach selected) in
    let v = c.unwrap-revision.result.now in
    let found : numbered r c.self.inside.roster.revisions ≡ Some v = sym c.find_number.ensures ∙ ap option_copied c.unwrap-revision.ensures in
    let here : v ≡ revision_of b.strategy b.opening b.past r = offered c.self.inside r v represents there found in
    let size : v.available ≡ available r b.past = ap (λ (w : Revision). w.available) here ∙ has b.strategy b.opening b.past r in
    let every : IsRoster c.self.inside.roster = c.count-count.ensures.every_roster in
    let ports : length v.ports ≡ c.self.inside.roster.replicas = ports_count _ r _ v every.well_formed found in
    let some : 0 < v.available = omega (arith, c.if-revision-eq0.false) in
    let most = reach.available_most r in
    let full = reach.desired_most r in
    rw (c.get.ensures, c.from.ensures) (omega (arith, mod-lt (c.self.inside.given + 1) some, ports, size, most, full, represents.replicas))

-- the ticket in the result
ticket_now : (inside now : RolloutModel) (service : Service) (t : Ticket) → inside ≡ now → (enter_refusal inside.routing service ≡ None) × IsTicket inside.routing service t
    → (enter_refusal now.routing service ≡ None) × IsTicket now.routing service t
ticket_now inside now service t is h = subst (λ (m : RolloutModel). (enter_refusal m.routing service ≡ None) × IsTicket m.routing service t) is h

pub returns-clause-judged : goal.returns-clause-judged
returns-clause-judged g c =
    let b = (model_of c.self.inside).routing in
    let represents : PartsRepresent b (parts_of c.self.inside) = c.self.invariant in
    let reach : Reachable b.strategy b.opening b.past = c.reachable.ensures b.strategy b.opening b.past represents.routing.legal.allowed in
    let r = c.in_ok-selected.selected in
    let selected = selected_inside _ _ c.args.service r c.self.view_is c.in_ok-selected.ensures in
    let there = found_there b.strategy b.opening b.past r _ represents.revisions (c.finds.ensures.number b.strategy b.opening b.past r) (selected_exists b.strategy b.opening b.past c.args.service r reach selected) in
    let v = c.unwrap-revision.result.now in
    let found : numbered r c.self.inside.roster.revisions ≡ Some v = sym c.find_number.ensures ∙ ap option_copied c.unwrap-revision.ensures in
    let here : v ≡ revision_of b.strategy b.opening b.past r = offered c.self.inside r v represents there found in
    let size : v.available ≡ available r b.past = ap (λ (w : Revision). w.available) here ∙ has b.strategy b.opening b.past r in
    let kept : c.places_kept.result ≡ 3 * all_open b.past = c.places_kept.ensures ∙ ap (λ (m : RolloutModel). 3 * all_open m.routing.past) (sym c.self.view_is) in
    rw (c.get.ensures, c.from.ensures)
    (ticket_now _ _ c.args.service _ c.self.view_is (
      not_refused b c.args.service r selected (λ e. c.if-revision-eq0.false (size ∙ e)) (omega (arith, represents.given, c.if-self.false)) (omega (arith, kept, c.len.ensures, c.if-len-places_kept.false)),
      record {
        number_is = ap (λ (n : ℕ). n + 1) represents.given;
        revision_is = selected;
        port_is = port_is b.strategy b.opening b.past r (c.self.inside.given + 1) (reach.templates r (selected_exists b.strategy b.opening b.past c.args.service r reach selected))
            ∙ ap (λ (n : ℕ). Some (slice_index (revision_of b.strategy b.opening b.past r).ports ((c.self.inside.given + 1) % n))) (sym size)
            ∙ ap (λ (w : Revision). Some (slice_index w.ports ((c.self.inside.given + 1) % v.available))) (sym here);
      },
    ))

-- the room for a request, in terms of the rollout before the call
room_now : (inside now : RolloutModel) → inside ≡ now → length inside.routing.past + 1 + 3 * (all_open inside.routing.past + 1) ≤ inside.routing.limits.entries
    → length now.routing.past + 1 + 3 * (all_open now.routing.past + 1) ≤ now.routing.limits.entries
room_now inside now is h = subst (λ (m : RolloutModel). length m.routing.past + 1 + 3 * (all_open m.routing.past + 1) ≤ m.routing.limits.entries) is h

pub returns-clause-room : goal.returns-clause-room
returns-clause-room g c =
    let kept : c.places_kept.result ≡ 3 * all_open (model_of c.self.inside).routing.past = c.places_kept.ensures ∙ ap (λ (m : RolloutModel). 3 * all_open m.routing.past) (sym c.self.view_is) in
    room_now (model_of c.self.inside) _ c.self.view_is (omega (arith, kept, c.len.ensures, c.if-len-places_kept.false))
