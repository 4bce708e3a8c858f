use Rattle.std.proofs.Common.{◌≡◌, ◌+◌, ap, sym, ◌∙◌, length, length-drop, min, drop, vec_capacity, arith}
use Rattle.bg_client_side.proofs.OutgoingLemmas.{more_written, outgoing_at}
use Rattle.bg_client_side.specs.Outgoing.{Outgoing, with_written}
use Rattle.bg_client_side.proofs.outgoing.OutgoingResponse.wrote.Goals as goal

pub returns : goal.returns
returns c =
    let bytes = c.self.inside.bytes.items in
    let written = c.self.inside.written in
    let rest : c.rest.result.now ≡ drop written bytes = c.rest.ensures ∙ ap (λ (o : Outgoing). o.rest) (sym c.self.view_is) in
    let size = ap length rest in
    let left = length-drop written bytes in
    let sum : c.saturating_add-self-inside.result ≡ written + min c.args.count (length (drop written bytes)) =
    omega (arith, c.self.inside.bytes.ok.0, c.self.inside.bytes.ok.1, c.self.inside.bytes.small) in
    ap (λ w. outgoing_at bytes w (vec_capacity c.self.inside.bytes)) sum
    ∙ more_written bytes written c.args.count (vec_capacity c.self.inside.bytes)
    ∙ ap (λ o. with_written o c.args.count) c.self.view_is
