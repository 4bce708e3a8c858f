use Rattle.std.proofs.Common.{arith, subst}
use Rattle.std.specs.Io.BufRead.{FillKeeps}
use Rattle.std.proofs.BufReadLemmas.{Consumes_shown}
use Rattle.bg_operator.specs.Taking.{Gathers}
use Rattle.bg_operator.proofs.Marks.{gathers_piece, none_seen}
use Rattle.bg_operator.proofs.Pieces.{Known-taken_to_end}
use Rattle.bg_operator.proofs.strategy_part.gather_piece.Goals as goal

pub returns : goal.returns
returns g c =
    let old = c.args.whole.now.items in
    let piece = c.in-Ok.piece.now in
    let new = c.extend_from_slice.new.self.items in
    let kept = c.min-kept.result in
    let at_end = c.is_empty-at_end.result in
    let rested = c.fill_buf.follows.lender-at-none in
    let filled = subst (FillKeeps _ (g.B.Read.remaining rested) (g.B.BufRead.consumable_len rested)) c.in-Ok.is c.fill_buf.follows.holds-at-none in
    let moved = Consumes_shown _ _ _ _ piece kept (omega arith) c.in-Ok.ensures.front c.in-Ok.ensures.end filled.0 filled.1 c.consume.ensures.bytes in
    Known-taken_to_end at_end (Gathers at_end old new) _ _ _
    (λ xs ys split none. gathers_piece at_end old piece new xs ys kept c.in_ok-extend_from_slice.ensures.items split none)
    moved.0 (λ ends. moved.1 (none_seen _ at_end c.is_empty-at_end.ensures ends))
