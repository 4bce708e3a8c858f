use Rattle.std.proofs.Common.{◌-◌, ap, arith, subst, sym}
use Rattle.bg_relay.specs.Relays.{StandsFor}
use Rattle.bg_relay.specs.contracts.relay.Relay.{the_view}
use Rattle.bg_relay.proofs.RelayLemmas.{of_ok, step_stands}
use Rattle.bg_relay.proofs.relay.Relay.take.Goals as goal

pub returns-clause-stands : goal.returns-clause-stands
returns-clause-stands c input written stands =
    let old = the_view c.self.inside in
    let step = c.in-Ok-Some.step in
    let bytes = c.args.bytes.now in
    let is = rw c.in-Ok-Some.field-0-is at c.in-Ok-Some.ensures.step in
    let piece = of_ok c.push_piece.result (sym c.if-is_err.ensures.value) c.push_piece.ensures.piece in
    step_stands old bytes c.data.result.now c.push_piece.new.text.items c.saturating_sub-room.result (old.left - step.count) step
    c.is_whole-is_last.result is (omega (arith, is.fits, c.requires.within, ap (λ s. s.left) c.self.view_is)) c.is_whole-is_last.ensures c.data.ensures piece input written
    (subst (λ s. StandsFor s input written) (sym c.self.view_is) stands)
