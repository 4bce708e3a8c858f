use Rattle.bg_streams.specs.ResponseRelays.{FailsBy}
use Rattle.bg_streams.proofs.ResponseLemmas.{all_waits, fails_behind, if_err_is, passes_both}
use Rattle.bg_streams.proofs.response_relay.ResponseRelay.take.Goals as goal

pub returns-in_err-body-clause-refused : goal.returns-in_err-body-clause-refused
returns-in_err-body-clause-refused c =
    let old = c.args.self.now in
    let fault = c.in_err-body.field-0.0 in
    if_err_is (FailsBy old c.take_body.new.self c.args.bytes.now) c.from_residual-in_err-body.result fault
    c.from_residual-in_err-body.ensures.1
    (fails_behind old c.take_heads.new.self c.take_body.new.self c.args.bytes.now c.in_ok-heads.heads fault
    c.in_ok-heads.ensures.fits c.in_ok-heads.ensures.terms c.in_ok-heads.ensures.stands (rw c.behind.ensures at c.in_err-body.ensures.refused))

pub returns-clause-stands : goal.returns-clause-stands
returns-clause-stands c =
    passes_both c.args.self.now c.take_heads.new.self c.take_body.new.self c.args.bytes.now c.in_ok-heads.heads c.in_ok-body.body
    c.in_ok-heads.ensures.stands (rw c.behind.ensures at c.in_ok-body.ensures.stands)

pub returns-clause-waits : goal.returns-clause-waits
returns-clause-waits c =
    all_waits c.take_heads.new.self c.take_body.new.self c.args.bytes.now c.in_ok-heads.heads c.in_ok-body.body
    c.in_ok-heads.ensures.waits c.in_ok-body.ensures.none (rw c.behind.ensures at c.in_ok-body.ensures.waits)
