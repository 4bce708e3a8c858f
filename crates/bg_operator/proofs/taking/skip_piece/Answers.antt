use Rattle.std.proofs.Common.{true, false, ◌+◌, arith, rules, subst}
use Rattle.std.specs.Io.BufRead.{FillKeeps}
use Rattle.std.proofs.BufReadLemmas.{Consumes_shown}
use Rattle.bg_operator.specs.Taking.{PassesPiece}
use Rattle.bg_operator.proofs.Pieces.{Known-taken, passes_break, passes_more}
use Rattle.bg_operator.proofs.taking.skip_piece.Goals as goal

pub returns-then-at-piece : goal.returns-then-at-piece
returns-then-at-piece g c =
    let piece = c.in-Ok.piece.now in
    let at = c.find_break-at.result in
    let rested = c.fill_buf.follows.lender-at-none in
    let filled = subst (FillKeeps _ (g.B.Read.remaining rested) (g.B.BufRead.consumable_len rested)) c.in-Ok.is c.fill_buf.follows.holds-at-none in
    let moved = Consumes_shown _ _ _ _ piece (at + 1) (omega arith) c.in-Ok.ensures.front c.in-Ok.ensures.end filled.0 filled.1 c.consume.ensures.bytes in
    Known-taken (PassesPiece true) _ _ _
    (λ xs ys split. passes_break piece xs ys at (c.find_break-at.ensures.found (search rules)) c.find_break-at.ensures.none_before split)
    moved.0

pub returns : goal.returns
returns g c =
    let piece = c.in-Ok.piece.now in
    let at = c.find_break-at.result in
    let rested = c.fill_buf.follows.lender-at-none in
    let filled = subst (FillKeeps _ (g.B.Read.remaining rested) (g.B.BufRead.consumable_len rested)) c.in-Ok.is c.fill_buf.follows.holds-at-none in
    let moved = Consumes_shown _ _ _ _ piece at (omega arith) c.in-Ok.ensures.front c.in-Ok.ensures.end filled.0 filled.1 c.consume-2.ensures.bytes in
    Known-taken (PassesPiece false) _ _ _
    (λ xs ys split. passes_more piece xs ys at c.find_break-at.ensures.none_before split)
    moved.0
