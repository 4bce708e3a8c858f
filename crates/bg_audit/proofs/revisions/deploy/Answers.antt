use Rattle.std.proofs.Common.{◌≡◌, ◌==◌, true, is_some, IsFalse, arith, sym, ◌∙◌}
use Rattle.std.proofs.lemmas.Bool.Decides.{nat_tests}
use Rattle.bg_revisions.specs.Rosters.{numbered}
use Rattle.bg_history.specs.declared.entry.Entry.TheVariants.{Deploy}
use Rattle.bg_history.specs.AttemptBounds.{stable_of}
use Rattle.bg_history.specs.Deadlines.{exists_in}
use Rattle.bg_audit.proofs.Listed.{raised-listed, deployed-listed, number-listed}
use Rattle.bg_audit.proofs.revisions.deploy.Goals as goal

pub returns-in_ok-add : goal.returns-in_ok-add
returns-in_ok-add c = λ o past state reach allowed is.
    deployed-listed c.args.strategy.now o past c.args.template.now.number c.args.template.now.name.now c.args.template.now.ports.now c.args.revisions.now.items _
    (λ above other size there. c.appends.ensures c.args.strategy.now o past c.args.template.now.number c.args.template.now.name.now c.args.template.now.ports.now above other size there)
    (c.finds.ensures.number c.args.strategy.now o past c.args.template.now.number) reach allowed is (grind arith) (grind arith)

pub returns-then-number-state : goal.returns-then-number-state
returns-then-number-state c = λ o past state reach allowed is.
    let kept : is_some (numbered c.args.template.now.number c.args.revisions.now.items) ≡ true = grind arith in
    let there : exists_in c.args.template.now.number past ≡ true =
    sym (number-listed c.args.strategy.now o past c.args.template.now.number c.args.revisions.now.items (c.finds.ensures.number c.args.strategy.now o past c.args.template.now.number) is) ∙ kept in
    let same = state.stable_is in
    let other : IsFalse (c.args.template.now.number == stable_of past) = grind (arith, nat_tests) in
    raised-listed c.args.strategy.now o past (Deploy c.args.template.now.number c.args.template.now.name.now c.args.template.now.ports.now) c.args.template.now.number c.args.strategy.now.preview_replicas _ _
    (c.resizes.ensures.deploy c.args.strategy.now o past c.args.template.now.number c.args.template.now.name.now c.args.template.now.ports.now there other)
    (c.finds.ensures.number c.args.strategy.now o past c.args.template.now.number) there is c.raise.ensures
