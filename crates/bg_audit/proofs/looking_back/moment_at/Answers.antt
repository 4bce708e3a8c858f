use Rattle.std.proofs.Common.{◌-◌, ap, ◌∙◌, arith}
use Rattle.std.specs.Prelude.{unwrap_or}
use Rattle.bg_history.specs.AttemptBounds.{moment}
use Rattle.bg_audit.specs.Openings.{oldest}
use Rattle.bg_audit.proofs.LookingBack.{oldest-back, looked}
use Rattle.bg_audit.proofs.looking_back.moment_at.Goals as goal

pub returns-in-Some : goal.returns-in-Some
returns-in-Some c =
    let h = c.args.history.now.past in
    let n = c.loop-place.place in
    let e = c.entry_at.result.now in
    looked moment n h e c.ticks_to.result c.in-Some.moment
    (ap (λ r. unwrap_or r (moment (oldest (n - 1) h))) c.in-Some.is) (c.ticks_to.ensures (oldest (n - 1) h))
    (oldest-back n h e (omega (arith, c.loop-place-test.true)) c.entry_at.ensures)
    ∙ c.loop-place.invariant

pub loop-place-preserved : goal.loop-place-preserved
loop-place-preserved c =
    let h = c.args.history.now.past in
    let n = c.loop-place.place in
    let e = c.entry_at.result.now in
    looked moment n h e c.ticks_to.result (moment (oldest (n - 1) h))
    (ap (λ r. unwrap_or r (moment (oldest (n - 1) h))) c.in_default.is) (c.ticks_to.ensures (oldest (n - 1) h))
    (oldest-back n h e (omega (arith, c.loop-place-test.true)) c.entry_at.ensures)
    ∙ c.loop-place.invariant
