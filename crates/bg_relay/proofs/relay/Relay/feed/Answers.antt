use Rattle.std.proofs.Common.{IfErr, subst, sym}
use Rattle.bg_relay.specs.Relays.{IsRefusedBehind}
use Rattle.bg_relay.specs.contracts.relay.Relay.{the_view}
use Rattle.bg_relay.proofs.RelayLemmas.{breaks_off}
use Rattle.bg_relay.proofs.relay.Relay.feed.Goals as goal

pub returns-in-Err-clause-refused : goal.returns-in-Err-clause-refused
returns-in-Err-clause-refused c =
    let old = c.args.self.now in
    let bytes = c.args.bytes.now in
    breaks_off c.take_within_limit-taken.result old (the_view c.self-2.inside) bytes c.in-Err.fault c.in-Err.is
    (subst (λ relay. IfErr c.take_within_limit-taken.result (λ named. IsRefusedBehind old relay bytes named)) (sym c.self-2.view_is)
    c.take_within_limit-taken.ensures.refused)
