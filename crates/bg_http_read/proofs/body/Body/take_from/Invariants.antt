use Rattle.std.proofs.Common.{◌≡◌, ◌≤◌, ◌-◌, drop, length}
use Rattle.bg_http_read.specs.Bodies.{Follows, KeepsLimit}
use Rattle.bg_http_read.proofs.body.Body.take_from.Given as goal

abbrev pub invariant-loop-count : goal.invariant-loop-count
invariant-loop-count l = record {
  fits : l.at ≤ length l.bytes;
  follows : Follows l.initial.self l.bytes l.self (drop l.at l.bytes);
  limit : l.self.limit ≡ l.initial.self.limit;
  within : KeepsLimit l.self;
}

abbrev pub decreases-loop-count : goal.decreases-loop-count
decreases-loop-count l = length l.bytes - l.at
