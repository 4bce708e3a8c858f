use Rattle.std.proofs.Common.{◌≡◌, ◌++◌, map, take, drop}
use Rattle.bg_revisions.specs.Rosters.{resized}
use Rattle.bg_audit.proofs.revisions.resize.Given as goal

abbrev pub invariant-loop-revision : goal.invariant-loop-revision
invariant-loop-revision l =
    l.revision-items ≡ map (resized l.number l.desired) (take l.revision-index l.initial.revision-items) ++ drop l.revision-index l.initial.revision-items
