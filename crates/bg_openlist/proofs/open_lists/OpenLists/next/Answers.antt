use Rattle.std.proofs.Common.{sym, ap, ◌∙◌}
use Rattle.bg_openlist.specs.Family.{shown}
use Rattle.bg_openlist.proofs.Callers.{less_none, less_some, next_seen}
use Rattle.bg_openlist.proofs.open_lists.OpenLists.next.Goals as goal

pub returns-in_err-index-clause-next : goal.returns-in_err-index-clause-next
returns-in_err-index-clause-next g c =
    ap shown c.from_residual-in_err-index.ensures ∙ less_none _ _ c.in_err-index.ensures.next ∙ sym (next_seen c.self.invariant c.self.view_is c.args.node c.in_ok-list_of.field-0 c.in_ok-list_of.ensures.list)

pub returns-clause-next : goal.returns-clause-next
returns-clause-next g c =
    less_some _ _ c.in_ok-index.index c.in_ok-index.value.now c.in_ok-index.ensures.next ∙ sym (next_seen c.self.invariant c.self.view_is c.args.node c.in_ok-list_of.field-0 c.in_ok-list_of.ensures.list)
