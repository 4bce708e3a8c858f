use Rattle.std.proofs.Common.{◌≡◌, ◌-◌, ◌∷◌, ap, ◌∙◌, arith}
use Rattle.std.specs.Prelude.{unwrap_or, is_none}
use Rattle.bg_history.specs.AttemptBounds.{stable_of, is_running}
use Rattle.bg_audit.specs.Openings.{oldest}
use Rattle.bg_audit.proofs.LookingBack.{oldest-back, looked}
use Rattle.bg_audit.proofs.looking_back.is_running.Goals as goal

pub returns-in-Some : goal.returns-in-Some
returns-in-Some c =
    let h = c.args.history.now.past in
    let n = c.loop-place.place in
    let e = c.entry_at.result.now in
    let back : oldest n h ≡ e ∷ oldest (n - 1) h = oldest-back n h e (omega (arith, c.loop-place-test.true)) c.entry_at.ensures in
    looked is_running n h e c.runs_after.result c.in-Some.runs
    (ap (λ r. unwrap_or r (is_running (oldest (n - 1) h))) c.in-Some.is)
    (c.runs_after.ensures.running (oldest (n - 1) h) (c.loop-place.invariant.1 ∙ ap stable_of back)) back
    ∙ c.loop-place.invariant.0

pub loop-place-preserved : goal.loop-place-preserved
loop-place-preserved c =
    let h = c.args.history.now.past in
    let n = c.loop-place.place in
    let e = c.entry_at.result.now in
    let back : oldest n h ≡ e ∷ oldest (n - 1) h = oldest-back n h e (omega (arith, c.loop-place-test.true)) c.entry_at.ensures in (
      looked is_running n h e c.runs_after.result (is_running (oldest (n - 1) h))
          (ap (λ r. unwrap_or r (is_running (oldest (n - 1) h))) c.in_default.is)
          (c.runs_after.ensures.running (oldest (n - 1) h) (c.loop-place.invariant.1 ∙ ap stable_of back)) back
          ∙ c.loop-place.invariant.0,
      c.loop-place.invariant.1 ∙ ap stable_of back ∙ c.runs_after.ensures.stable (oldest (n - 1) h) (ap (λ r. is_none r) c.in_default.is),
    )
