use Rattle.std.proofs.Common.{drop}
use Rattle.bg_http_read.proofs.BodyLoop.{wants_first}
use Rattle.bg_http_read.proofs.body.Body.take_from.Goals as goal

pub returns-then-count-eq0-clause-wants : goal.returns-then-count-eq0-clause-wants
returns-then-count-eq0-clause-wants c =
    wants_first c.args.self.now c.loop-count.self c.take.new.self c.args.bytes.now
    (drop c.loop-count.at c.args.bytes.now) c.in_ok-count.count c.loop-count.invariant.follows
    (rw c.behind.ensures at c.in_ok-count.ensures.taken) c.if-count-eq0.true
