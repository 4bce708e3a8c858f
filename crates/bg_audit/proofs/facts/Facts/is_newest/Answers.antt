use Rattle.std.proofs.Common.{◌≡◌, ◌∙◌, ap}
use Rattle.std.specs.Option.{option_copied}
use Rattle.bg_history.specs.AttemptBounds.{newest_of}
use Rattle.bg_revisions.specs.Rosters.{numbered, has_template}
use Rattle.bg_audit.proofs.Allowing.{newest-template}
use Rattle.bg_audit.proofs.facts.Facts.is_newest.Goals as goal

pub returns : goal.returns
returns c = λ s o past known reach.
    let found : option_copied c.with_number.result ≡ numbered c.args.self.now.state.newest c.args.self.now.revisions.items = rw (← c.deref.ensures.value) c.with_number.ensures in
    c.has_template.ensures ∙ ap (has_template c.args.name.now c.args.ports.now) found
    ∙ newest-template s o past c.args.self.now c.args.name.now c.args.ports.now known reach (c.finds.ensures.number s o past (newest_of past))
