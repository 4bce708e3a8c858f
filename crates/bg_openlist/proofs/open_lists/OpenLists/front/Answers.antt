use Rattle.std.proofs.Common.{slice_get, sym, ap, arith, ◌∙◌}
use Rattle.bg_openlist.specs.Family.{shown}
use Rattle.bg_openlist.proofs.Callers.{family_seen, front_seen, less_none, less_some, none_seen}
use Rattle.bg_openlist.proofs.open_lists.OpenLists.front.Goals as goal

pub returns-then-list-ge-LISTS-clause-front : goal.returns-then-list-ge-LISTS-clause-front
returns-then-list-ge-LISTS-clause-front g c = ap (λ ps. slice_get ps 0) (none_seen c.self.invariant c.self.view_is c.args.list (omega (arith, c.if-list-ge-LISTS.true)))

pub returns-then-list-ge-LISTS-clause-family : goal.returns-then-list-ge-LISTS-clause-family
returns-then-list-ge-LISTS-clause-family g c = family_seen c.self.invariant c.self.view_is

pub returns-in_err-index-clause-front : goal.returns-in_err-index-clause-front
returns-in_err-index-clause-front g c =
    ap shown c.from_residual.ensures ∙ less_none _ _ c.in_err-index.ensures.next ∙ sym (front_seen c.self.invariant c.self.view_is c.args.list (omega (arith, c.if-list-ge-LISTS.false)))

pub returns-in_err-index-clause-family : goal.returns-in_err-index-clause-family
returns-in_err-index-clause-family g c = family_seen c.self.invariant c.self.view_is

pub returns-clause-front : goal.returns-clause-front
returns-clause-front g c =
    less_some _ _ c.in_ok-index.index c.in_ok-index.value.now c.in_ok-index.ensures.next ∙ sym (front_seen c.self.invariant c.self.view_is c.args.list (omega (arith, c.if-list-ge-LISTS.false)))

pub returns-clause-family : goal.returns-clause-family
returns-clause-family g c = family_seen c.self.invariant c.self.view_is
