use Rattle.std.proofs.Common.{◌≡◌, ◌∙◌, Some, None, OnSome, arith, subst, sym}
use Rattle.std.specs.List.{remove}
use Rattle.bg_client_side.proofs.SeatLemmas.{place_is}
use Rattle.bg_client_side.proofs.seats.take_out.Goals as goal

pub returns-in-Some-clause-there : goal.returns-in-Some-clause-there
returns-in-Some-clause-there c =
    let there = place_is c.args.number c.args.numbers.now.items (Some c.in-Some.place) (sym c.in-Some.is ∙ c.place_of.ensures) in
    sym there.1

pub returns-in-Some-clause-left : goal.returns-in-Some-clause-left
returns-in-Some-clause-left c =
    let old = c.args.numbers.now.items in
    let there = place_is c.args.number old (Some c.in-Some.place) (sym c.in-Some.is ∙ c.place_of.ensures) in
    let found = c.remove.ensures.succeeds 0 (omega (arith, there.0, c.args.numbers.now.ok.0)) in
    let left = subst (λ r. OnSome r (c.remove.new.self.items ≡ remove old c.in-Some.place)) found c.remove.ensures.items in
    left ∙ sym there.2

pub returns-in-None-clause-there : goal.returns-in-None-clause-there
returns-in-None-clause-there c =
    let there = place_is c.args.number c.args.numbers.now.items None (sym c.in-None.is ∙ c.place_of.ensures) in
    sym there.0

pub returns-in-None-clause-left : goal.returns-in-None-clause-left
returns-in-None-clause-left c =
    let there = place_is c.args.number c.args.numbers.now.items None (sym c.in-None.is ∙ c.place_of.ensures) in
    sym there.1
