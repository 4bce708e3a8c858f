use Rattle.std.proofs.Common.{◌≡◌, ◌≤◌, ◌-◌, ◌++◌, ◌∙◌, List, ℕ, ap, sym, subst, length, take, drop, arith}
use Rattle.bg_endpoint_side.proofs.TextLemmas.{piece_behind}
use Rattle.bg_endpoint_side.specs.OutgoingTexts.{IsFirstPiece, Outgoing, uncopied_body}
use Rattle.bg_endpoint_side.proofs.outgoing_text.OutgoingText.piece.Goals as goal

pub returns-else-self-len : goal.returns-else-self-len
returns-else-self-len c =
    let front = c.self.inside.front.items in
    let uncopied = c.args.uncopied.now in
    let written = c.self.inside.written in
    let size : c.len-else-self-len.result ≡ length front = omega (arith, c.len-else-self-len.ensures, c.self.inside.front.ok.0) in
    let end : uncopied ≡ uncopied_body c.self.inside.request.value =
    c.requires ∙ ap (λ (o : Outgoing). o.uncopied) (sym c.self.view_is) in
    let rest : c.args.self.now.rest ≡ drop written (front ++ uncopied) =
    ap (λ (o : Outgoing). o.rest) (sym c.self.view_is) ∙ ap (λ u. drop written (front ++ u)) (sym end) in
    let behind : length front ≤ written = omega (arith, c.if-self-len.false, size) in
    let piece : ℕ → List ℕ = λ n. take (length uncopied - (written - n)) (drop (written - n) uncopied) in
    subst (λ r. IsFirstPiece r (piece c.len-else-self-len.result)) (sym rest)
    (subst (λ n. IsFirstPiece (drop written (front ++ uncopied)) (piece n)) (sym size)
    (piece_behind front uncopied written behind))
