use Rattle.std.proofs.Common.{◌-◌, ap, ◌∙◌, arith}
use Rattle.std.specs.Prelude.{unwrap_or}
use Rattle.bg_history.specs.AttemptBounds.{is_halted}
use Rattle.bg_audit.specs.Openings.{oldest}
use Rattle.bg_audit.proofs.LookingBack.{oldest-back, looked}
use Rattle.bg_audit.proofs.looking_back.is_halted.Goals as goal

pub returns-in-Some : goal.returns-in-Some
returns-in-Some c =
    let h = c.args.history.now.past in
    let n = c.loop-place.place in
    let e = c.entry_at.result.now in
    looked is_halted n h e c.halts_after.result c.in-Some.halts
    (ap (λ r. unwrap_or r (is_halted (oldest (n - 1) h))) c.in-Some.is) (c.halts_after.ensures (oldest (n - 1) h))
    (oldest-back n h e (omega (arith, c.loop-place-test.true)) c.entry_at.ensures)
    ∙ c.loop-place.invariant

pub loop-place-preserved : goal.loop-place-preserved
loop-place-preserved c =
    let h = c.args.history.now.past in
    let n = c.loop-place.place in
    let e = c.entry_at.result.now in
    looked is_halted n h e c.halts_after.result (is_halted (oldest (n - 1) h))
    (ap (λ r. unwrap_or r (is_halted (oldest (n - 1) h))) c.in_default.is) (c.halts_after.ensures (oldest (n - 1) h))
    (oldest-back n h e (omega (arith, c.loop-place-test.true)) c.entry_at.ensures)
    ∙ c.loop-place.invariant
