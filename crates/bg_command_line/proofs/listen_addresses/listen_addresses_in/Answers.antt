use Rattle.std.proofs.lemmas.Result.{err_from_is_err_and}
use Rattle.bg_command_line.specs.ListenAddresses.{listed}
use Rattle.bg_command_line.proofs.ListenSteps.{first_fault, written_more}
use Rattle.bg_command_line.proofs.listen_addresses.listen_addresses_in.Goals as goal

pub returns-in_err-addresses-clause-fault : goal.returns-in_err-addresses-clause-fault
returns-in_err-addresses-clause-fault c =
    let p = err_from_is_err_and c.from_residual.result c.from_residual.ensures.1 in
    rw (p.1, p.2)
    (first_fault c.args.texts.now c.loop-text.text-index _ (listed c.loop-text.addresses) c.in_err-addresses.field-0.0
    c.loop-text-test.true c.loop-text.invariant c.in_err-addresses.ensures.fault)

pub loop-text-preserved : goal.loop-text-preserved
loop-text-preserved c =
    written_more c.args.texts.now c.loop-text.text-index _ (listed c.loop-text.addresses) (listed c.in_ok-addresses.addresses)
    c.in_ok-addresses.ensures.more.0 c.loop-text-test.true c.loop-text.invariant c.in_ok-addresses.ensures.more.1
    c.in_ok-addresses.ensures.more.2
