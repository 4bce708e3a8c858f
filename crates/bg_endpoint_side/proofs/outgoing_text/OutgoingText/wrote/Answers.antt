use Rattle.std.proofs.Common.{◌≡◌, ◌+◌, ◌++◌, ◌∙◌, ap, sym, length, min, drop}
use Rattle.bg_endpoint_side.proofs.TextLemmas.{more_written, outgoing_at}
use Rattle.bg_endpoint_side.specs.OutgoingTexts.{Outgoing, uncopied_body, with_written}
use Rattle.bg_endpoint_side.proofs.outgoing_text.OutgoingText.wrote.Goals as goal

pub returns : goal.returns
returns c =
    let written = c.self.inside.written in
    let uncopied = uncopied_body c.self.inside.request.value in
    let bytes = c.self.inside.front.items ++ uncopied in
    let left : c.left.result ≡ length (drop written bytes) =
    c.left.ensures ∙ ap (λ (o : Outgoing). length o.rest) (sym c.self.view_is) in
    let sum : written + c.min.result ≡ written + min c.args.count (length (drop written bytes)) =
    ap (λ n. written + n) (c.min.ensures ∙ ap (λ n. min c.args.count n) left) in
    ap (outgoing_at bytes uncopied) sum ∙ more_written bytes uncopied written c.args.count
    ∙ ap (λ o. with_written o c.args.count) c.self.view_is
