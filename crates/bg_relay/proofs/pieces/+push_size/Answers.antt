use Rattle.std.proofs.Common.{[], ◌∷◌, ◌%◌, arith}
use Rattle.std.specs.Char.{digit_char}
use Rattle.bg_relay.proofs.PieceLemmas.{appended, size_pushed}
use Rattle.bg_relay.proofs.pieces.+push_size.Goals as goal

pub returns-clause-size : goal.returns-clause-size
returns-clause-size t c =
    let size = c.args.size in
    let mid = c.push_size.new.text.items in
    let new = c.extend_from_slice-2.new.self.items in
    appended c.extend_from_slice-2.result mid new (digit_char (size % 16) ∷ [])
    (rw c.digit-2.ensures at c.extend_from_slice-2.ensures.items)
    (size_pushed size c.args.text.now.items mid new (omega (arith, c.if-size-lt16.false)) c.in_ok-push_size.ensures.size)
