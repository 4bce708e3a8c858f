use Rattle.std.proofs.Common.{◌∷◌, ap, sym, ◌∙◌, arith}
use Rattle.bg_history.specs.AttemptBounds.{stable_of}
use Rattle.bg_audit.specs.Openings.{oldest}
use Rattle.bg_audit.proofs.Prefixes.{oldest-next}
use Rattle.bg_audit.proofs.States.{has-selectors, looked-back}
use Rattle.bg_audit.proofs.audited_state.AuditedState.take.Goals as goal

pub look_back-requires : goal.look_back-requires
look_back-requires c =
    let h = c.args.history.now.past in
    let p = oldest c.args.place h in
    let back = oldest-next c.args.place h c.args.entry.now c.requires.entry in
    record {
      count = omega (arith, c.requires.place);
      stable = (c.select.ensures.selectors p (has-selectors c.args.strategy.now p c.args.self.now c.requires.state)).stable_is ∙ sym (ap stable_of back);
    }

pub returns-in_default : goal.returns-in_default
returns-in_default c =
    let s = c.args.strategy.now in
    let h = c.args.history.now.past in
    let p = oldest c.args.place h in
    let e = c.args.entry.now in
    let back = oldest-next c.args.place h e c.requires.entry in
    let selected = c.select.ensures.selectors p (has-selectors s p c.args.self.now c.requires.state) in
    rw c.look_back.ensures (rw back (looked-back s (e ∷ p) c.select.new.self selected))
