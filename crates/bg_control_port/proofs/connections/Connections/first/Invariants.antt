use Rattle.std.proofs.Common.{slice_index_or, None}
use Rattle.bg_control_port.proofs.Firsts.{IsFirstBelow}
use Rattle.bg_control_port.specs.Precedences.{place_at}
use Rattle.bg_control_port.proofs.connections.Connections.first.Given as goal

-- this is the first so far
abbrev pub invariant-loop-key : goal.invariant-loop-key
invariant-loop-key g l = IsFirstBelow (λ k. place_at l.order (slice_index_or l.self.places k None)) l.key l.first
