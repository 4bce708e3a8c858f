use Rattle.std.proofs.Common.{◌≡◌, false, take}
use Rattle.std.specs.List.{list_any}
use Rattle.bg_event_loop.specs.LivePorts.{has_live_port, revisions_of}
use Rattle.bg_event_loop.proofs.book_ports.has_live.Given as goal

abbrev pub invariant-loop-place : goal.invariant-loop-place
invariant-loop-place g l = list_any (has_live_port l.port) (take l.place (revisions_of l.book)) ≡ false
