use Rattle.std.proofs.Common.{rules, subst, sym, take}
use Rattle.std.proofs.KnownBytes.{Consumes-trans}
use Rattle.std.specs.Io.KnownBytes.{Consumes}
use Rattle.bg_http_read.proofs.Pieces.{first_bytes}
use Rattle.bg_http_read.proofs.intake.read_line_piece.Goals as goal

pub returns-then-last-eq0-clause-bytes : goal.returns-then-last-eq0-clause-bytes
returns-then-last-eq0-clause-bytes g c =
    let first = g.S.Read.remaining c.args.stream.now in
    let left = g.S.Read.remaining c.loop.stream in
    let next = g.S.Read.remaining c.read_piece.new.stream in
    let more = c.read_piece.new.piece in
    subst (Consumes first next)
    (sym (first_bytes c.loop.count c.in_ok-last.last c.loop.piece more _ c.loop.invariant.fits c.in_ok-last.ensures.fits))
    (Consumes-trans first left next (take c.loop.count c.loop.piece) (take c.in_ok-last.last more) c.loop.invariant.bytes c.in_ok-last.ensures.bytes)

pub loop-preserved : goal.loop-preserved
loop-preserved g c =
    let first = g.S.Read.remaining c.args.stream.now in
    let left = g.S.Read.remaining c.loop.stream in
    let next = g.S.Read.remaining c.read_piece.new.stream in
    let more = c.read_piece.new.piece in
    record {
      bytes = subst (Consumes first next)
          (sym (first_bytes c.loop.count c.in_ok-last.last c.loop.piece more _ c.loop.invariant.fits c.in_ok-last.ensures.fits))
          (Consumes-trans first left next (take c.loop.count c.loop.piece) (take c.in_ok-last.last more) c.loop.invariant.bytes c.in_ok-last.ensures.bytes);
      kept = search rules;
      size = search rules;
      fits = search rules;
    }
