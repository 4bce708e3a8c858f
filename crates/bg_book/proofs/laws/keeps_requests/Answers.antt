use Rattle.std.proofs.Common.{subst}
use Rattle.bg_book.specs.Promises.{KeepsRequests}
use Rattle.bg_book.proofs.Serving.{served-run, served-compacted_runs}
use Rattle.bg_book.proofs.laws.keeps_requests.Goals as goal

pub returns : goal.returns
returns g c =
    let b = c.book.inside.rollout.routing in
    let legal = c.holds_invariant.ensures.legal in
    let kept = c.keeps_requests.ensures in
    subst KeepsRequests c.book.view_is (record {
      every = λ q is. kept.every b.strategy b.opening b.closed b.past q legal is;
      calls = λ q t seats calls replies new new_seats h none run. served-run kept.stepped q t b new seats new_seats calls replies h none run;
      compacted = λ q t h. kept.compacted b.strategy b.opening b.closed b.past q t legal h;
      compacted_calls = λ q t seats calls replies new new_seats h none run. served-compacted_runs kept.stepped kept.compacted q t b new seats new_seats calls replies h none run;
    })
