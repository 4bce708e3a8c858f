use Rattle.std.proofs.Common.{◌≡◌, ◌≤◌, ◌+◌, ◌-◌, None, length, take}
use Rattle.bg_relay.specs.Relays.{KeepsSides, PassesOn}
use Rattle.bg_relay.proofs.relay.Relay.take_all.Given as goal

abbrev pub invariant-loop-count : goal.invariant-loop-count
invariant-loop-count l = record {
  fits : l.taken ≤ length l.bytes;
  stands : PassesOn l.initial.self l.self (take l.taken l.bytes);
  is_open : l.self.fault ≡ None;
  within : length l.bytes ≤ l.self.left + l.taken;
  sides : KeepsSides l.initial.self l.self;
}

abbrev pub decreases-loop-count : goal.decreases-loop-count
decreases-loop-count l = length l.bytes - l.taken
