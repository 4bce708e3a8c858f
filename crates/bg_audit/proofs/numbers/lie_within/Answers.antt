use Rattle.std.proofs.Common.{◌&&◌, ◌∙◌, ap, sym}
use Rattle.bg_history.specs.Requests.{request_numbers}
use Rattle.bg_history.specs.Steps.{all_given}
use Rattle.bg_audit.specs.Openings.{oldest}
use Rattle.bg_audit.proofs.Prefixes.{oldest-next, given-cons, not-given}
use Rattle.bg_audit.proofs.numbers.lie_within.Goals as goal

pub returns-then-not-lies_within : goal.returns-then-not-lies_within
returns-then-not-lies_within c =
    sym (not-given c.args.given c.loop-place.place c.args.history.now.past c.entry_at.result.now c.entry_at.ensures (sym c.lies_within.ensures ∙ c.if-not-lies_within.true))

pub loop-place-preserved : goal.loop-place-preserved
loop-place-preserved c =
    ap (λ p. all_given c.args.given (request_numbers p)) (oldest-next c.loop-place.place c.args.history.now.past c.entry_at.result.now c.entry_at.ensures)
    ∙ given-cons c.args.given c.entry_at.result.now (oldest c.loop-place.place c.args.history.now.past)
    ∙ ap (λ b. b && all_given c.args.given (request_numbers (oldest c.loop-place.place c.args.history.now.past))) (sym c.lies_within.ensures ∙ c.if-not-lies_within.false)
    ∙ c.loop-place.invariant
