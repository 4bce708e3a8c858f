use Rattle.bg_access_log.specs.Lines.{optional_member}
use Rattle.bg_access_log.proofs.Adding.{added_next}
use Rattle.bg_access_log.proofs.line.add_optionals.Goals as goal

pub loop-member-preserved : goal.loop-member-preserved
loop-member-preserved c =
    added_next (λ m. optional_member m.0.now m.1) c.args.members.now c.loop-member.member-index _ c.args.line.now
    c.loop-member.line _ c.loop-member-test.true c.loop-member.invariant c.in_ok-add_optional.ensures
