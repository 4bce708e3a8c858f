use Rattle.std.proofs.Common.{◌≡◌, take}
use Rattle.bg_switch.specs.RevisionLists.{ports_in_use, revisions_of, shown_lists}
use Rattle.bg_switch.proofs.revision_ports.lists_in.Given as goal

abbrev pub invariant-loop-place : goal.invariant-loop-place
invariant-loop-place g l =
    shown_lists l.lists ≡ ports_in_use l.book (take l.place (revisions_of l.book))
