use Rattle.std.proofs.Common.{subst}
use Rattle.bg_history_laws.specs.Live.{OnlyTestedIsLive}
use Rattle.bg_rollout.specs.Routing.{Routing}
use Rattle.bg_book.specs.Promises.{EntersTested}
use Rattle.bg_book.proofs.Promises.{enters-tested}
use Rattle.bg_book.proofs.laws.only_tested_is_live.Goals as goal

pub returns-clause-past : goal.returns-clause-past
returns-clause-past g c =
    let b = c.book.inside.rollout.routing in
    subst (λ (b : Routing). OnlyTestedIsLive b.strategy b.past) c.book.view_is (c.only_tested_is_live.ensures.live b.strategy b.opening b.closed b.past c.holds_invariant.ensures.legal)

pub returns-clause-enters : goal.returns-clause-enters
returns-clause-enters g c =
    let b = c.book.inside.rollout.routing in
    subst EntersTested c.book.view_is (enters-tested b (c.only_tested_is_live.ensures.live b.strategy b.opening b.closed b.past c.holds_invariant.ensures.legal).active)
