use Rattle.std.proofs.Common.{sym}
use Rattle.std.proofs.lemmas.Result.{IfErr-weaker}
use Rattle.clap.specs.Words.{found_of, rows_of}
use Rattle.bg_command_line.proofs.BadAddresses.{bad_by_fault}
use Rattle.bg_command_line.proofs.addresses.endpoint_address_of.Goals as goal

pub returns-in-Some-clause-fault : goal.returns-in-Some-clause-fault
returns-in-Some-clause-fault c =
    IfErr-weaker c.destination_in.result _ _
    (λ fault. bad_by_fault (rows_of (found_of c.args.matches.now)) c.in-Some.text.now fault (sym c.in-Some.ensures))
    c.destination_in.ensures.fault

pub returns-in-Some-clause-why : goal.returns-in-Some-clause-why
returns-in-Some-clause-why c =
    IfErr-weaker c.destination_in.result _ _ (λ fault is. (c.in-Some.text.now, sym c.in-Some.ensures, is)) c.destination_in.ensures.fault
