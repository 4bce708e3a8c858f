use Rattle.std.proofs.Common.{◌≡◌, ◌+◌, true, false, Option, Some, None, is_some, refl, arith, sym, subst}
use Rattle.bg_revisions.specs.declared.revision.Revision.{Revision}
use Rattle.bg_revisions.specs.Rosters.{Listing, named, is_well_formed}
use Rattle.bg_revisions.proofs.Listings.{IsRoster-push}
use Rattle.bg_revisions.proofs.roster.Roster.add.Goals as goal

none : (v : Option Revision) → is_some v ≡ false → v ≡ None
none None h = refl
none (Some v) h = cc

pub invariant_of-self-2 : goal.invariant_of-self-2
invariant_of-self-2 c =
    let before : Listing = record { replicas = c.self.inside.replicas; revisions = c.self.inside.revisions.items; last = c.self.inside.last } in
    let v : Revision = record { number = c.self.inside.last + 1; name = c.in_ok-name.name; ports = c.in_ok-ports.ports; desired = c.args.desired; available = 0 } in
    let is_new : named v.name before.revisions ≡ None = rw c.in_ok-name.ensures (subst (λ (r : Listing). named c.args.name.now r.revisions ≡ None) (sym c.self.view_is) (none _ c.requires.is_new)) in
    let formed : is_well_formed before.replicas v.name v.ports ≡ true = rw (c.in_ok-name.ensures, c.in_ok-ports.ensures) (subst (λ (r : Listing). is_well_formed r.replicas c.args.name.now c.args.ports.now ≡ true) (sym c.self.view_is) c.requires.fits) in
    rw c.in_ok-push.ensures.items (IsRoster-push before v refl is_new formed (omega arith) c.self.invariant)
