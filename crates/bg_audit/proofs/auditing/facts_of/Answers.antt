use Rattle.std.proofs.Common.{◌≡◌, ◌≤◌, true, List, length, refl, ◌∙◌, sym, subst, arith}
use Rattle.bg_history.specs.declared.entry.Entry.{Entry}
use Rattle.bg_history.specs.Kept.{Opening}
use Rattle.bg_history.specs.Allowed.{is_allowed}
use Rattle.bg_audit.specs.Openings.{opening_of, oldest}
use Rattle.bg_audit.specs.Known.{FactsRepresent}
use Rattle.bg_audit.proofs.Prefixes.{oldest-next, oldest-all, not-allowed}
use Rattle.bg_audit.proofs.auditing.facts_of.Goals as goal

pub loop-place-init : goal.loop-place-init
loop-place-init c = record { allowed = refl; known = c.in_ok-facts.ensures c.args.opening.now.seats }

pub returns-then-not-allows : goal.returns-then-not-allows
returns-then-not-allows c =
    let o : Opening = opening_of c.args.opening.now.seats c.args.opening.now.name.now c.args.opening.now.ports.now in
    let p : List Entry = oldest c.loop-place.place c.args.history.now.past in
    not-allowed c.args.strategy.now o c.loop-place.place c.args.history.now.past c.entry_at-entry.result.now c.entry_at-entry.ensures
    (sym (c.allows.ensures o p c.loop-place.invariant.known (c.reachable.ensures c.args.strategy.now o p c.loop-place.invariant.allowed) refl) ∙ c.if-not-allows.true)

pub loop-place-preserved : goal.loop-place-preserved
loop-place-preserved c =
    let o : Opening = opening_of c.args.opening.now.seats c.args.opening.now.name.now c.args.opening.now.ports.now in
    let p : List Entry = oldest c.loop-place.place c.args.history.now.past in
    let reach = c.reachable.ensures c.args.strategy.now o p c.loop-place.invariant.allowed in
    let allowed : is_allowed c.args.strategy.now o c.entry_at-entry.result.now p ≡ true =
    sym (c.allows.ensures o p c.loop-place.invariant.known reach refl) ∙ c.if-not-allows.false in
    let P : List Entry → Type 0 = λ q. FactsRepresent c.args.strategy.now o q c.take.new.self in
    subst P (sym (oldest-next c.loop-place.place c.args.history.now.past c.entry_at-entry.result.now c.entry_at-entry.ensures))
    (record {
      allowed = rw allowed c.loop-place.invariant.allowed;
      known = c.in_ok-take.ensures o c.loop-place.invariant.known reach allowed;
    })

pub returns : goal.returns
returns c =
    let far : length c.args.history.now.past ≤ c.loop-place.place = omega arith in
    let P : List Entry → Type 0 = λ q. FactsRepresent c.args.strategy.now (opening_of c.args.opening.now.seats c.args.opening.now.name.now c.args.opening.now.ports.now) q c.loop-place.facts in
    subst P (oldest-all c.loop-place.place c.args.history.now.past far) c.loop-place.invariant
