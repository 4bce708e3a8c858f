use Rattle.std.proofs.Common.{Some, None, ◌+◌, arith, rules, subst}
use Rattle.std.specs.Io.BufRead.{FillKeeps}
use Rattle.std.proofs.BufReadLemmas.{Consumes_shown}
use Rattle.bg_operator.specs.declared.taking.LineEnd.TheVariants.{Break}
use Rattle.bg_operator.specs.Taking.{TakesPiece}
use Rattle.bg_operator.proofs.Pieces.{Known-taken, takes_break, takes_more}
use Rattle.bg_operator.proofs.taking.take_piece.Goals as goal

pub returns-then-at-free-clause-taken : goal.returns-then-at-free-clause-taken
returns-then-at-free-clause-taken g c =
    let old = c.args.line.now.items in
    let piece = c.in-Ok.piece.now in
    let new = c.extend_from_slice.new.self.items in
    let at = c.find_break-at.result in
    let rested = c.fill_buf.follows.lender-at-none in
    let filled = subst (FillKeeps _ (g.B.Read.remaining rested) (g.B.BufRead.consumable_len rested)) c.in-Ok.is c.fill_buf.follows.holds-at-none in
    let moved = Consumes_shown _ _ _ _ piece (at + 1) (omega arith) c.in-Ok.ensures.front c.in-Ok.ensures.end filled.0 filled.1 c.consume.ensures.bytes in
    Known-taken (TakesPiece (Some Break) old new) _ _ _
    (λ xs ys split. takes_break old piece new xs ys at c.in_ok-extend_from_slice.ensures.items (c.find_break-at.ensures.found (search rules)) c.find_break-at.ensures.none_before split)
    moved.0

pub returns-clause-taken : goal.returns-clause-taken
returns-clause-taken g c =
    let old = c.args.line.now.items in
    let piece = c.in-Ok.piece.now in
    let new = c.extend_from_slice-2.new.self.items in
    let at = c.find_break-at.result in
    let kept = c.min-kept.result in
    let rested = c.fill_buf.follows.lender-at-none in
    let filled = subst (FillKeeps _ (g.B.Read.remaining rested) (g.B.BufRead.consumable_len rested)) c.in-Ok.is c.fill_buf.follows.holds-at-none in
    let moved = Consumes_shown _ _ _ _ piece kept (omega arith) c.in-Ok.ensures.front c.in-Ok.ensures.end filled.0 filled.1 c.consume-2.ensures.bytes in
    Known-taken (TakesPiece None old new) _ _ _
    (λ xs ys split. takes_more old piece new xs ys at kept (omega arith) c.in_ok-extend_from_slice-2.ensures.items c.find_break-at.ensures.none_before split)
    moved.0
