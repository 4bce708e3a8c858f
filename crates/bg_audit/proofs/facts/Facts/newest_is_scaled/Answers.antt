use Rattle.std.proofs.Common.{◌∙◌, ◌&&◌, ap}
use Rattle.bg_history.specs.AttemptBounds.{newest_of}
use Rattle.bg_history.specs.Sizes.{is_scaled}
use Rattle.bg_history.specs.Deadlines.{exists_in}
use Rattle.bg_audit.proofs.facts.Facts.newest_is_scaled.Goals as goal

pub returns : goal.returns
returns c = λ s o past known reach.
    c.may_report.ensures s o past known
    ∙ ap (λ n. exists_in n past && is_scaled s n past) known.state.newest_is
    ∙ ap (λ b. b && is_scaled s (newest_of past) past) reach.newest
