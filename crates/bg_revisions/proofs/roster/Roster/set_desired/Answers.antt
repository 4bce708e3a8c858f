use Rattle.std.proofs.Common.{◌≡◌, ◌∙◌, map, arith, ap}
use Rattle.std.proofs.lemmas.List.Edits.{map_over_more}
use Rattle.bg_revisions.specs.Rosters.{resized}
use Rattle.bg_revisions.proofs.Listings.{IsRoster-resized, map-whole, take-written}
use Rattle.bg_revisions.proofs.roster.Roster.set_desired.Goals as goal

pub loop-revision-preserved : goal.loop-revision-preserved
loop-revision-preserved c =
    rw (c.resize.ensures, ← c.revision-item.is) (map_over_more (resized c.args.number c.args.desired) _ _ c.loop-revision.revision-index c.revision-item.result c.loop-revision-test.true c.loop-revision.invariant c.revision-item.is)

changed : (c : goal.After-self-1) → c.loop-revision.revision-items ≡ map (resized c.args.number c.args.desired) c.self.inside.revisions.items
changed c = map-whole _ _ _ _ c.loop-revision.invariant c.loop-revision-test.false ∙ ap (map (resized c.args.number c.args.desired)) c.deref_mut-revision-items.ensures.value

pub invariant_of-self : goal.invariant_of-self
invariant_of-self c =
    rw (take-written c.self.inside.revisions.items c.loop-revision.revision-items c.self.inside.revisions.len (omega arith) (omega arith), changed c) (IsRoster-resized _ _ _ c.self.invariant)
