use Rattle.std.proofs.Common.{◌≡◌, ◌==◌, ◌∙◌, ap, find}
use Rattle.std.specs.Option.{option_copied}
use Rattle.bg_audit.specs.Scans.{is_held_in}
use Rattle.bg_audit.proofs.Allowing.{holds-is}
use Rattle.bg_audit.proofs.facts.Facts.holds.Goals as goal

pub returns : goal.returns
returns c = λ s o past known.
    let found : option_copied c.held_by.result ≡ find (λ q. q.seat == c.args.seat) c.args.self.now.requests.items = rw (← c.deref.ensures.value) c.held_by.ensures in
    c.is_held.ensures ∙ ap (is_held_in c.args.number c.args.revision) found
    ∙ holds-is s o past c.args.self.now c.args.seat c.args.number c.args.revision known
