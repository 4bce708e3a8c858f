use Rattle.std.proofs.Common.{◌≡◌, ◌∙◌, ap, length}
use Rattle.std.specs.Option.{option_copied}
use Rattle.bg_revisions.specs.Rosters.{named}
use Rattle.bg_audit.specs.Scans.{fits_named}
use Rattle.bg_audit.proofs.Allowing.{namesake-fits}
use Rattle.bg_audit.proofs.facts.Facts.fits_namesake.Goals as goal

pub returns : goal.returns
returns c = λ s o past known reach.
    let found : option_copied c.with_name.result ≡ named c.args.name.now c.args.self.now.revisions.items = rw (← c.deref.ensures.value, ← c.get.ensures) c.with_name.ensures in
    c.fits.ensures
    ∙ ap (λ v. fits_named v c.args.number c.args.ports.now c.args.self.now.state.last (length c.args.self.now.revisions.items)) found
    ∙ namesake-fits s o past c.args.self.now c.args.number c.args.name.now c.args.ports.now known reach (c.names.ensures.namesake s o past c.args.name.now) (c.finds.ensures.count s o past)
