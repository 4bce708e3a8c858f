use Rattle.std.proofs.Common.{◌≡◌, None, rules, take}
use Rattle.bg_streams.proofs.ResponseLemmas.{head_passes, head_refuses}
use Rattle.bg_streams.proofs.response_relay.ResponseRelay.take_heads.Goals as goal

pub returns-in-Err-clause-refused : goal.returns-in-Err-clause-refused
returns-in-Err-clause-refused c =
    let none : c.args.self.now.passing ≡ None = search rules in
    head_refuses c.args.self.now c.args.bytes.now c.in-Err.fault none c.in-Err.ensures.refused

pub returns-clause-stands : goal.returns-clause-stands
returns-clause-stands c =
    let none : c.args.self.now.passing ≡ None = search rules in
    head_passes c.args.self.now c.take.new.self c.in-Ok-new.passing c.in-Some.head c.in-Some.framing
    (take c.in-Ok.found.taken c.args.bytes.now) none c.in-Ok-new.ensures
    (λ request input taken. rw c.in-Some.is at c.in-Ok.ensures.head request input taken)
