use Rattle.std.proofs.Common.{◌≡◌, ◌-◌, ◌∷◌, true, false, Some, ap, sym, ◌∙◌, arith}
use Rattle.std.specs.Option.{option_or}
use Rattle.bg_history.specs.AttemptBounds.{moment, is_running}
use Rattle.bg_history.specs.Attempts.{pass_moment}
use Rattle.bg_audit.specs.Openings.{oldest}
use Rattle.bg_audit.proofs.LookingBack.{oldest-back, still-runs, no-moment, runs-before, moment-looked, older-counts}
use Rattle.bg_audit.proofs.looking_back.passed_at.Goals as goal

pub returns-then-is_bound : goal.returns-then-is_bound
returns-then-is_bound c =
    let s = c.args.strategy.now in
    let h = c.args.history.now.past in
    let n = c.loop-place.place in
    let e = c.entry_at-entry.result.now in
    let back : oldest n h ≡ e ∷ oldest (n - 1) h = oldest-back n h e (omega (arith, c.loop-place-test.true)) c.entry_at-entry.ensures in
    sym (ap (λ m. option_or m c.loop-place.found) (ap (pass_moment s) back ∙ no-moment s e (oldest (n - 1) h) (sym c.is_bound.ensures ∙ c.if-is_bound.true))) ∙ c.loop-place.invariant.0

pub passes-requires-clause-running : goal.passes-requires-clause-running
passes-requires-clause-running c =
    let h = c.args.history.now.past in
    let n = c.loop-place.place in
    let e = c.entry_at-entry.result.now in
    let back : oldest n h ≡ e ∷ oldest (n - 1) h = oldest-back n h e (omega (arith, c.loop-place-test.true)) c.entry_at-entry.ensures in
    c.loop-place.invariant.1 ∙ ap is_running back ∙ still-runs e (oldest (n - 1) h) (sym c.is_bound.ensures ∙ c.if-is_bound.false)

pub loop-place-preserved-then-passes : goal.loop-place-preserved-then-passes
loop-place-preserved-then-passes c =
    let s = c.args.strategy.now in
    let q = oldest c.loop-place.place c.args.history.now.past in
    let p = oldest (c.loop-place.place - 1) c.args.history.now.past in
    let e = c.entry_at-entry.result.now in
    let back : q ≡ e ∷ p = oldest-back c.loop-place.place c.args.history.now.past e (omega (arith, c.loop-place-test.true)) c.entry_at-entry.ensures in
    let unbound = sym c.is_bound.ensures ∙ c.if-is_bound.false in
    let whole = moment-looked s q p e true back unbound (sym (c.passes.ensures e c.entry_at-entry.ensures) ∙ c.if-passes.true) in (
      ap (λ m. option_or (pass_moment s p) (Some m)) c.moment_at.ensures ∙ sym (older-counts (moment p) (pass_moment s p) c.loop-place.found)
          ∙ sym (ap (λ m. option_or m c.loop-place.found) whole) ∙ c.loop-place.invariant.0,
      runs-before q p e c.args.running back unbound c.loop-place.invariant.1,
    )

pub loop-place-preserved : goal.loop-place-preserved
loop-place-preserved c =
    let h = c.args.history.now.past in
    let n = c.loop-place.place in
    let e = c.entry_at-entry.result.now in
    let back = oldest-back n h e (omega (arith, c.loop-place-test.true)) c.entry_at-entry.ensures in
    let unbound = sym c.is_bound.ensures ∙ c.if-is_bound.false in (
      sym (ap (λ m. option_or m c.loop-place.found) (moment-looked c.args.strategy.now (oldest n h) (oldest (n - 1) h) e false back unbound (sym (c.passes.ensures e c.entry_at-entry.ensures) ∙ c.if-passes.false)))
          ∙ c.loop-place.invariant.0,
      runs-before (oldest n h) (oldest (n - 1) h) e c.args.running back unbound c.loop-place.invariant.1,
    )
