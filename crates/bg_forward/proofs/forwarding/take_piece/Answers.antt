use Rattle.std.proofs.Common.{◌≡◌, sym, subst, take, rules, arith}
use Rattle.std.specs.Io.KnownBytes.{Consumes}
use Rattle.bg_http_read.specs.Responses.{ReadsResponse}
use Rattle.bg_forward.proofs.Pieces.{continued}
use Rattle.bg_forward.proofs.forwarding.take_piece.Goals as goal

pub returns-in-Ok-Some-clause-taken : goal.returns-in-Ok-Some-clause-taken
returns-in-Ok-Some-clause-taken g c =
    let left = g.R.Read.remaining c.args.reader.now in
    let next = g.R.Read.remaining c.read.new.self in
    let bytes = take c.min.result c.read.new.buf in
    let count : c.min.result ≡ c.in-Ok.count = search (rules, arith) in
    let came : Consumes left next bytes =
    subst (λ n. Consumes left next (take n c.read.new.buf)) (sym count) c.in-Ok.ensures.bytes.0 in
    let whole = rw c.in-Ok-Some.field-0-is at c.in-Ok-Some.ensures.response in
    continued (ReadsResponse c.args.parser.now.request c.in-Ok-Some.response) c.args.parser.now.seen bytes left next came whole
