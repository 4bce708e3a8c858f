use Rattle.std.proofs.Common.{◌≡◌, ◌≤◌, ◌*◌, ◌^◌, take, sum}
use Rattle.bg_audit.proofs.numbers.closed.Given as goal

abbrev pub invariant-loop-seat : goal.invariant-loop-seat
invariant-loop-seat l = (l.count ≡ sum (take l.seat l.history.closed)) × (l.count ≤ l.seat * 2 ^ 64)
