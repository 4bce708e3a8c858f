use Rattle.std.proofs.Common.{subst, sym}
use Rattle.bg_relay.specs.Relays.{StandsFor}
use Rattle.bg_relay.specs.contracts.relay.Relay.{the_view}
use Rattle.bg_relay.proofs.RelayLemmas.{end_stands, of_ok}
use Rattle.bg_relay.proofs.relay.Relay.end_here.Goals as goal

pub returns-clause-stands : goal.returns-clause-stands
returns-clause-stands c input written stands =
    let piece = of_ok c.push_piece.result (sym c.if-is_err.ensures.value) c.push_piece.ensures.piece in
    end_stands (the_view c.self.inside) c.push_piece.new.text.items c.in-ToTheEnd.is piece input written
    (subst (λ s. StandsFor s input written) (sym c.self.view_is) stands)
