use Rattle.std.proofs.Common.{subst, sym}
use Rattle.bg_upgrade.specs.Acceptances.{FindsAcceptance}
use Rattle.bg_upgrade.proofs.AcceptanceLemmas.{judged, no_head}
use Rattle.bg_upgrade.proofs.acceptance.find_acceptance.Goals as goal

pub returns-in-Ok-Some : goal.returns-in-Ok-Some
returns-in-Ok-Some c =
    subst (FindsAcceptance c.args.request.now c.args.bytes.now) (sym c.judge.ensures)
    (judged c.an_input_has_one_head.ensures.one c.args.request.now c.args.bytes.now c.in-Ok-Some.head c.in-Ok-Some.taken
    (rw c.in-Ok-Some.field-0-is at c.in-Ok-Some.ensures.fits) (rw c.in-Ok-Some.field-0-is at c.in-Ok-Some.ensures.head))

pub returns-in_default : goal.returns-in_default
returns-in_default c =
    no_head c.an_input_has_one_head.ensures.none c.args.request.now c.args.bytes.now c.in-Err.fault
    c.in_default.not-OutOfMemory c.in-Err.ensures.fault c.in-Err.ensures.refused
