use Rattle.std.proofs.Common.{◌≡◌, ◌++◌, map, take, drop}
use Rattle.bg_revisions.specs.Rosters.{reported}
use Rattle.bg_audit.proofs.revisions.report.Given as goal

abbrev pub invariant-loop-revision : goal.invariant-loop-revision
invariant-loop-revision l =
    l.revision-items ≡ map (reported l.number l.available) (take l.revision-index l.initial.revision-items) ++ drop l.revision-index l.initial.revision-items
