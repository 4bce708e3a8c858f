use Rattle.std.proofs.Common.{◌≡◌, ◌+◌, [], ◌∷◌, ◌∙◌, ap, arith}
use Rattle.bg_history.specs.Requests.{entered}
use Rattle.bg_audit.specs.Openings.{oldest}
use Rattle.bg_audit.proofs.Prefixes.{oldest-next, entered-cons}
use Rattle.bg_audit.proofs.numbers.entered.Goals as goal

pub loop-place-preserved : goal.loop-place-preserved
loop-place-preserved c =
    let next : entered (oldest (c.loop-place.place + 1) c.args.history.now.past) ≡ entered (c.entry_at.result.now ∷ []) + entered (oldest c.loop-place.place c.args.history.now.past) =
    ap entered (oldest-next c.loop-place.place c.args.history.now.past c.entry_at.result.now c.entry_at.ensures) ∙ entered-cons c.entry_at.result.now (oldest c.loop-place.place c.args.history.now.past) in
    (omega (arith, next, c.enters-count.ensures.count, c.loop-place.invariant.0), omega (arith, c.enters-count.ensures.most, c.loop-place.invariant.1))
