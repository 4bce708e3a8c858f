use Rattle.std.proofs.Common.{[], ◌∷◌, subst, sym}
use Rattle.bg_relay.specs.declared.framing.Framing.TheVariants as framing
use Rattle.bg_relay.specs.Pieces.{Appends, IsPiece}
use Rattle.bg_relay.proofs.PieceLemmas.{appended, end_pushed}
use Rattle.bg_relay.proofs.pieces.push_chunks.Goals as goal

pub returns-clause-piece : goal.returns-clause-piece
returns-clause-piece c =
    let bytes = c.args.bytes.now in
    let old = c.args.text.now.items in
    let mid = c.push_data.new.text.items in
    let new = c.extend_from_slice.new.self.items in
    appended c.extend_from_slice.result mid new (48 ∷ 13 ∷ 10 ∷ 13 ∷ 10 ∷ []) c.extend_from_slice.ensures.items
    (λ e. subst (λ last. Appends (IsPiece framing.Chunks last bytes) old new) (sym c.if-not-is_last.false)
    (end_pushed bytes old mid new c.in_ok-push_data.ensures.piece e))
