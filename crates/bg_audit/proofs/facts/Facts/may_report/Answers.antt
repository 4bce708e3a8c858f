use Rattle.std.proofs.Common.{◌≡◌, ◌∙◌, ap}
use Rattle.std.specs.Option.{option_copied}
use Rattle.bg_revisions.specs.Rosters.{numbered}
use Rattle.bg_audit.specs.Scans.{wants_in}
use Rattle.bg_audit.proofs.Allowing.{report-fits}
use Rattle.bg_audit.proofs.facts.Facts.may_report.Goals as goal

pub returns : goal.returns
returns c = λ s o past known.
    let found : option_copied c.with_number.result ≡ numbered c.args.number c.args.self.now.revisions.items = rw (← c.deref.ensures.value) c.with_number.ensures in
    c.wants.ensures ∙ ap (wants_in c.args.size) found
    ∙ report-fits s o past c.args.self.now c.args.number c.args.size known (c.finds.ensures.number s o past c.args.number)
