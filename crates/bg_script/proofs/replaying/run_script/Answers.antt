use mir.Val.{bool_byte}
use Rattle.std.proofs.Common.{ℕ, subst, IfSome, true, false, ◌≡◌, if◌then◌else◌, refl, ◌∙◌}
use Rattle.bg_script.specs.LineSteps.{Closed}
use Rattle.bg_script.specs.Scripts.{Ran}
use Rattle.bg_script.proofs.replaying.run_script.Goals as goal

pub returns : goal.returns
returns g c =
    let known = g.B.Read.remaining c.args.reader.now in
    let first = g.W.Write.contents c.args.writer.now in
    let last = g.W.Write.contents c.run.new.writer in
    let faulted = c.in_ok-faulted.faulted in (
      faulted,
      subst (λ (n : ℕ). IfSome known (Ran (Closed c.args.strategy.now n) first last faulted)) c.from.ensures c.in_ok-faulted.ensures,
      c.from-2.ensures ∙ (elim faulted as (λ t. bool_byte t ≡ (if t then 1 else 0)) [ true ↦ refl | false ↦ refl ]),
    )
