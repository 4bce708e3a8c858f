use Rattle.std.proofs.Common.{rules, refl, [], ◌++◌, ap, subst, sym, take}
use Rattle.std.proofs.KnownBytes.{Keeps-refl}
use Rattle.bg_http_read.specs.Streams.{Leaves}
use Rattle.bg_http_read.specs.Requests.{WritesContinue}
use Rattle.bg_http_read.specs.RequestPieces.{OwesIf}
use Rattle.bg_http_read.specs.RequestStates.{ReadsAsked}
use Rattle.bg_http_read.proofs.Pieces.{Came, came_behind, came_kept, came_straight, none_came, whole_input}
use Rattle.bg_http_read.proofs.RequestPieces.{ended_fault, ended_wrote, owes_straight, piece_fault, piece_wrote, request_of, wrote_reading, wrote_request, wrote_straight, writes_kept}
use Rattle.bg_http_read.proofs.request_read.read_with.Goals as goal

pub loop-init : goal.loop-init
loop-init g c =
    let first = g.S.Read.remaining c.args.stream.now in
    let written = g.S.Write.contents c.args.stream.now in
    record {
      came = subst (λ p. Leaves (Came p.seen) first first) (sym c.requires) (none_came first);
      goes_on = ap (λ p. p.is_open) c.requires;
      wrote = subst (λ p. WritesContinue p.asked written written) (sym c.requires) (Keeps-refl written);
      owed = subst (λ p. OwesIf p.asked p.seen) (sym c.requires) (λ is. cc);
      size = refl;
    }

pub returns-in_default-clause-written : goal.returns-in_default-clause-written
returns-in_default-clause-written g c =
    let written = g.S.Write.contents c.args.stream.now in
    let before = g.S.Write.contents c.read_more.new.stream in
    let wrote = writes_kept c.loop.parser.asked written (g.S.Write.contents c.loop.stream) before c.loop.invariant.wrote c.read_more.ensures.kept in
    wrote_reading c.loop.parser.asked c.loop.parser.seen (g.S.Read.remaining c.args.stream.now) (g.S.Read.remaining c.loop.stream)
    written before c.loop.invariant.came c.loop.invariant.owed wrote

pub returns-clause-written : goal.returns-clause-written
returns-clause-written g c =
    wrote_reading c.loop.parser.asked c.loop.parser.seen (g.S.Read.remaining c.args.stream.now) (g.S.Read.remaining c.loop.stream)
    (g.S.Write.contents c.args.stream.now) (g.S.Write.contents c.loop.stream) c.loop.invariant.came c.loop.invariant.owed c.loop.invariant.wrote

pub returns-in_default-arrival-clause-fault : goal.returns-in_default-arrival-clause-fault
returns-in_default-arrival-clause-fault g c =
    let first = g.S.Read.remaining c.args.stream.now in
    let next = g.S.Read.remaining c.read_more.new.stream in
    let more = c.in-Some.ensures.came in
    let parser = c.read_more.new.self in
    let end = rw c.in_default-arrival.is at more.2 in
    let came = came_straight c.loop.parser.seen more.0 parser.seen first (g.S.Read.remaining c.loop.stream) next c.loop.invariant.came (ap (λ p. p.seen) more.1) end.0 in
    ended_fault parser.asked parser.seen first next c.finish.result came end.1 c.finish.ensures.refused

pub returns-in_default-arrival-clause-written : goal.returns-in_default-arrival-clause-written
returns-in_default-arrival-clause-written g c =
    let first = g.S.Read.remaining c.args.stream.now in
    let next = g.S.Read.remaining c.read_more.new.stream in
    let more = c.in-Some.ensures.came in
    let parser = c.read_more.new.self in
    let end = rw c.in_default-arrival.is at more.2 in
    let came = came_straight c.loop.parser.seen more.0 parser.seen first (g.S.Read.remaining c.loop.stream) next c.loop.invariant.came (ap (λ p. p.seen) more.1) end.0 in
    let written = g.S.Write.contents c.args.stream.now in
    let before = g.S.Write.contents c.read_more.new.stream in
    let wrote = wrote_straight c.loop.parser parser more.0 written (g.S.Write.contents c.loop.stream) before more.1 c.loop.invariant.wrote c.read_more.ensures.kept in
    ended_wrote parser.asked parser.seen first next written before c.finish.result came end.1 wrote
    c.finish.ensures.request c.finish.ensures.refused

pub returns-in-Ok-Some-clause-request : goal.returns-in-Ok-Some-clause-request
returns-in-Ok-Some-clause-request g c =
    let first = g.S.Read.remaining c.args.stream.now in
    let next = g.S.Read.remaining c.read_more.new.stream in
    let more = c.in-Some.ensures.came in
    let parser = c.read_more.new.self in
    let bytes = take c.in-Piece.count c.read_more.new.piece in
    let seen = parser.seen ++ bytes in
    let behind = rw c.in-Piece.is at more.2 in
    let came = came_behind c.loop.parser.seen more.0 parser.seen bytes first (g.S.Read.remaining c.loop.stream) next c.loop.invariant.came (ap (λ p. p.seen) more.1) behind.1 in
    let written = g.S.Write.contents c.args.stream.now in
    let before = g.S.Write.contents c.read_more.new.stream in
    let wrote = wrote_straight c.loop.parser parser more.0 written (g.S.Write.contents c.loop.stream) before more.1 c.loop.invariant.wrote c.read_more.ensures.kept in
    let owed = owes_straight c.loop.parser parser more.0 more.1 c.loop.invariant.owed in
    let answer = rw c.in-Ok-Some.field-0-is at c.in-Ok-Some.ensures.answer written wrote owed in
    request_of answer.0 first c.in-Ok-Some.request
    (whole_input (ReadsAsked answer.0 c.in-Ok-Some.request) seen first next came answer.1)

pub returns-in-Ok-Some-clause-written : goal.returns-in-Ok-Some-clause-written
returns-in-Ok-Some-clause-written g c =
    let first = g.S.Read.remaining c.args.stream.now in
    let next = g.S.Read.remaining c.read_more.new.stream in
    let more = c.in-Some.ensures.came in
    let parser = c.read_more.new.self in
    let bytes = take c.in-Piece.count c.read_more.new.piece in
    let seen = parser.seen ++ bytes in
    let behind = rw c.in-Piece.is at more.2 in
    let came = came_behind c.loop.parser.seen more.0 parser.seen bytes first (g.S.Read.remaining c.loop.stream) next c.loop.invariant.came (ap (λ p. p.seen) more.1) behind.1 in
    let written = g.S.Write.contents c.args.stream.now in
    let before = g.S.Write.contents c.read_more.new.stream in
    let wrote = wrote_straight c.loop.parser parser more.0 written (g.S.Write.contents c.loop.stream) before more.1 c.loop.invariant.wrote c.read_more.ensures.kept in
    let owed = owes_straight c.loop.parser parser more.0 more.1 c.loop.invariant.owed in
    let now = g.S.Write.contents c.feed_piece.new.stream in
    let answer = rw c.in-Ok-Some.field-0-is at c.in-Ok-Some.ensures.answer written wrote owed in
    wrote_request answer.0 (seen ++ []) first written now c.in-Ok-Some.request (answer.1 [])
    (whole_input (ReadsAsked answer.0 c.in-Ok-Some.request) seen first next came answer.1) answer.2

pub returns-in-Err-clause-fault : goal.returns-in-Err-clause-fault
returns-in-Err-clause-fault g c =
    let first = g.S.Read.remaining c.args.stream.now in
    let next = g.S.Read.remaining c.read_more.new.stream in
    let more = c.in-Some.ensures.came in
    let parser = c.read_more.new.self in
    let bytes = take c.in-Piece.count c.read_more.new.piece in
    let seen = parser.seen ++ bytes in
    let behind = rw c.in-Piece.is at more.2 in
    let came = came_behind c.loop.parser.seen more.0 parser.seen bytes first (g.S.Read.remaining c.loop.stream) next c.loop.invariant.came (ap (λ p. p.seen) more.1) behind.1 in
    let written = g.S.Write.contents c.args.stream.now in
    let before = g.S.Write.contents c.read_more.new.stream in
    let wrote = wrote_straight c.loop.parser parser more.0 written (g.S.Write.contents c.loop.stream) before more.1 c.loop.invariant.wrote c.read_more.ensures.kept in
    let owed = owes_straight c.loop.parser parser more.0 more.1 c.loop.invariant.owed in
    let now = g.S.Write.contents c.feed_piece.new.stream in
    piece_fault seen first next written now c.in-Err.fault c.feed_piece.new.parser came
    (c.in-Err.ensures.answer written wrote owed)

pub returns-in-Err-clause-written : goal.returns-in-Err-clause-written
returns-in-Err-clause-written g c =
    let first = g.S.Read.remaining c.args.stream.now in
    let next = g.S.Read.remaining c.read_more.new.stream in
    let more = c.in-Some.ensures.came in
    let parser = c.read_more.new.self in
    let bytes = take c.in-Piece.count c.read_more.new.piece in
    let seen = parser.seen ++ bytes in
    let behind = rw c.in-Piece.is at more.2 in
    let came = came_behind c.loop.parser.seen more.0 parser.seen bytes first (g.S.Read.remaining c.loop.stream) next c.loop.invariant.came (ap (λ p. p.seen) more.1) behind.1 in
    let written = g.S.Write.contents c.args.stream.now in
    let before = g.S.Write.contents c.read_more.new.stream in
    let wrote = wrote_straight c.loop.parser parser more.0 written (g.S.Write.contents c.loop.stream) before more.1 c.loop.invariant.wrote c.read_more.ensures.kept in
    let owed = owes_straight c.loop.parser parser more.0 more.1 c.loop.invariant.owed in
    let now = g.S.Write.contents c.feed_piece.new.stream in
    piece_wrote seen first next written now c.in-Err.fault c.feed_piece.new.parser came
    (c.in-Err.ensures.answer written wrote owed)

pub loop-preserved : goal.loop-preserved
loop-preserved g c =
    let first = g.S.Read.remaining c.args.stream.now in
    let next = g.S.Read.remaining c.read_more.new.stream in
    let more = c.in-Some.ensures.came in
    let parser = c.read_more.new.self in
    let bytes = take c.in-Piece.count c.read_more.new.piece in
    let seen = parser.seen ++ bytes in
    let behind = rw c.in-Piece.is at more.2 in
    let came = came_behind c.loop.parser.seen more.0 parser.seen bytes first (g.S.Read.remaining c.loop.stream) next c.loop.invariant.came (ap (λ p. p.seen) more.1) behind.1 in
    let written = g.S.Write.contents c.args.stream.now in
    let before = g.S.Write.contents c.read_more.new.stream in
    let wrote = wrote_straight c.loop.parser parser more.0 written (g.S.Write.contents c.loop.stream) before more.1 c.loop.invariant.wrote c.read_more.ensures.kept in
    let owed = owes_straight c.loop.parser parser more.0 more.1 c.loop.invariant.owed in
    let answer = rw c.in-Ok-None.field-0-is at c.in-Ok-None.ensures.answer written wrote owed in
    let fed = c.feed_piece.new.parser in
    record {
      came = came_kept fed.seen first next (g.S.Read.remaining c.feed_piece.new.stream)
          (subst (λ l. Leaves (Came l) first next) (sym answer.0) came) c.feed_piece.ensures.left;
      goes_on = answer.1;
      wrote = answer.2;
      owed = subst (OwesIf fed.asked) (sym answer.0) answer.3;
      size = search rules;
    }
