use Rattle.std.proofs.Common.{ap, ◌∙◌}
use Rattle.bg_rollout.specs.RequestLists.{has_request, without_seat}
use Rattle.bg_rollout.proofs.Linked.{holds_unlinked, linked_node, list_without, shown_without}
use Rattle.bg_rollout.proofs.request_lists.RequestLists.remove.Goals as goal

pub unlink-requires : goal.unlink-requires
unlink-requires c = linked_node c.self.inside.owned.items c.self.inside.linked c.args.seat c.self.invariant.family (ap (has_request c.args.seat) c.self.view_is ∙ c.requires)

pub invariant_of-self : goal.invariant_of-self
invariant_of-self c =
    holds_unlinked c.self.inside.owned.items _ c.self.inside.linked c.unlink.new.self c.args.seat c.self.invariant
    (list_without c.self.inside.linked c.unlink.new.self c.args.seat c.unlink.ensures.lists) c.unlink.ensures.nodes c.unlink.ensures.family

pub returns : goal.returns
returns c =
    shown_without c.self.inside.linked c.unlink.new.self c.args.seat c.self.inside.owned.items (list_without c.self.inside.linked c.unlink.new.self c.args.seat c.unlink.ensures.lists)
    ∙ ap (without_seat c.args.seat) c.self.view_is
