use Rattle.std.proofs.Common.{flat_map, take}
use Rattle.bg_access_log.specs.Lines.{Added, optional_member}
use Rattle.bg_access_log.proofs.line.add_optionals.Given as goal

abbrev pub invariant-loop-member : goal.invariant-loop-member
invariant-loop-member l =
    Added l.fn.line l.line (flat_map (λ m. optional_member m.0.now m.1) (take l.member-index l.members))
