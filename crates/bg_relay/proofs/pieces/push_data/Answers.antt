use Rattle.std.proofs.Common.{rules}
use Rattle.httparse.specs.Ascii.{crlf_bytes}
use Rattle.bg_relay.proofs.PieceLemmas.{appended, chunk_pushed}
use Rattle.bg_relay.proofs.pieces.push_data.Goals as goal

pub returns-clause-piece : goal.returns-clause-piece
returns-clause-piece c =
    let filled = c.extend_from_slice-2.new.self.items in
    let new = c.extend_from_slice-3.new.self.items in
    appended c.extend_from_slice-3.result filled new crlf_bytes c.extend_from_slice-3.ensures.items
    (chunk_pushed c.args.bytes.now c.args.text.now.items c.push_size.new.text.items c.extend_from_slice.new.self.items
    filled new (search rules) (search rules) c.in_ok-push_size.ensures.size c.in_ok-extend_from_slice.ensures.items
    c.in_ok-extend_from_slice-2.ensures.items)
