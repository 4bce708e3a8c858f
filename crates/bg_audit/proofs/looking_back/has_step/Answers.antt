use Rattle.std.proofs.Common.{◌≡◌, ◌-◌, ◌∷◌, true, false, ap, sym, ◌∙◌, arith}
use Rattle.bg_history.specs.Attempts.{in_attempt}
use Rattle.bg_audit.specs.Openings.{oldest}
use Rattle.bg_audit.specs.Steps.{is_step}
use Rattle.bg_audit.proofs.LookingBack.{oldest-back, no-step, runs-before, step-looked}
use Rattle.bg_audit.proofs.looking_back.has_step.Goals as goal

pub returns-then-is_bound : goal.returns-then-is_bound
returns-then-is_bound c =
    let h = c.args.history.now.past in
    let n = c.loop-place.place in
    let e = c.entry_at-entry.result.now in
    let t = is_step c.args.step in
    let back : oldest n h ≡ e ∷ oldest (n - 1) h = oldest-back n h e (omega (arith, c.loop-place-test.true)) c.entry_at-entry.ensures in
    sym (no-step t e (oldest (n - 1) h) (sym c.is_bound.ensures ∙ c.if-is_bound.true)) ∙ sym (ap (in_attempt t) back) ∙ c.loop-place.invariant.0

pub returns-then-is_taken : goal.returns-then-is_taken
returns-then-is_taken c =
    let h = c.args.history.now.past in
    let n = c.loop-place.place in
    let e = c.entry_at-entry.result.now in
    let back = oldest-back n h e (omega (arith, c.loop-place-test.true)) c.entry_at-entry.ensures in
    sym (step-looked (is_step c.args.step) (oldest n h) (oldest (n - 1) h) e c.args.running true back (sym c.is_bound.ensures ∙ c.if-is_bound.false) c.loop-place.invariant.1 (sym c.is_taken.ensures ∙ c.if-is_taken.true))
    ∙ c.loop-place.invariant.0

pub loop-place-preserved : goal.loop-place-preserved
loop-place-preserved c =
    let q = oldest c.loop-place.place c.args.history.now.past in
    let p = oldest (c.loop-place.place - 1) c.args.history.now.past in
    let e = c.entry_at-entry.result.now in
    let back : q ≡ e ∷ p = oldest-back c.loop-place.place c.args.history.now.past e (omega (arith, c.loop-place-test.true)) c.entry_at-entry.ensures in
    let unbound = sym c.is_bound.ensures ∙ c.if-is_bound.false in (
      sym (step-looked (is_step c.args.step) q p e c.args.running false back unbound c.loop-place.invariant.1 (sym c.is_taken.ensures ∙ c.if-is_taken.false)) ∙ c.loop-place.invariant.0,
      runs-before q p e c.args.running back unbound c.loop-place.invariant.1,
    )
