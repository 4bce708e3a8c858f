use Rattle.std.proofs.Common.{◌≡◌, ◌∙◌, map, arith, ap}
use Rattle.std.proofs.lemmas.List.Edits.{map_over_more}
use Rattle.bg_revisions.specs.Rosters.{reported}
use Rattle.bg_revisions.proofs.Listings.{IsRoster-reported, map-whole, take-written}
use Rattle.bg_revisions.proofs.roster.Roster.set_available.Goals as goal

pub loop-revision-preserved : goal.loop-revision-preserved
loop-revision-preserved c =
    rw (c.report.ensures, ← c.revision-item.is) (map_over_more (reported c.args.number c.args.available) _ _ c.loop-revision.revision-index c.revision-item.result c.loop-revision-test.true c.loop-revision.invariant c.revision-item.is)

changed : (c : goal.After-self-1) → c.loop-revision.revision-items ≡ map (reported c.args.number c.args.available) c.self.inside.revisions.items
changed c = map-whole _ _ _ _ c.loop-revision.invariant c.loop-revision-test.false ∙ ap (map (reported c.args.number c.args.available)) c.deref_mut-revision-items.ensures.value

pub invariant_of-self : goal.invariant_of-self
invariant_of-self c =
    rw (take-written c.self.inside.revisions.items c.loop-revision.revision-items c.self.inside.revisions.len (omega arith) (omega arith), changed c) (IsRoster-reported _ _ _ c.self.invariant)
