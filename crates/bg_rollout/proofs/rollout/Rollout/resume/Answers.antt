use Rattle.std.proofs.Common.{◌≤◌, ap, sym, ◌∙◌, arith}
use Rattle.bg_history_laws.specs.Reachable.{Reachable}
use Rattle.bg_rollout.specs.Invariant.{RolloutModel}
use Rattle.bg_rollout.proofs.Following.{resumes, resumed_room}
use Rattle.bg_rollout.proofs.rollout.Rollout.resume.Goals as goal

pub returns-clause-ok : goal.returns-clause-ok
returns-clause-ok g c =
    resumes c.args.self.now.routing c.reserve.new.self.routing c.settle.new.self.routing c.args.entries.now c.settle.result
    (c.in_ok-reserve.ensures.routing ∙ c.in_ok-follow_all.ensures.ok) c.in_ok-follow_all.ensures.none_open c.holds_invariant.ensures.legal c.settle.ensures.reached c.settle.ensures.settled

pub returns-clause-room : goal.returns-clause-room
returns-clause-room g c =
    let b = c.reserve.new.self.routing in
    let reach : Reachable b.strategy b.opening b.past = c.reachable.ensures b.strategy b.opening b.past c.holds_invariant.ensures.legal.allowed in
    let follows = c.few_follow.ensures b.strategy b.past c.settle.ensures.reached.outcomes c.settle.ensures.reached.follow in
    let few : c.settle.result ≤ 136 = omega (arith, follows, c.work_is_bounded.ensures b.strategy b.past reach.few, c.settle.ensures.reached.count_is) in
    resumed_room c.args.self.now.routing b c.settle.new.self.routing c.args.entries.now c.settle.result c.self.inside.limits.entries
    (c.in_ok-reserve.ensures.routing ∙ c.in_ok-follow_all.ensures.ok) c.settle.ensures.reached few (omega (arith, c.if-entries-self.false)) (sym (ap (λ (m : RolloutModel). m.routing.limits.entries) c.self.view_is))

pub settle-requires : goal.settle-requires
settle-requires g c = λ outcomes follow.
    let b = c.reserve.new.self.routing in
    let reach : Reachable b.strategy b.opening b.past = c.reachable.ensures b.strategy b.opening b.past c.holds_invariant.ensures.legal.allowed in
    omega (arith, c.few_follow.ensures b.strategy b.past outcomes follow, c.work_is_bounded.ensures b.strategy b.past reach.few, c.in_ok-reserve.ensures.ok)
