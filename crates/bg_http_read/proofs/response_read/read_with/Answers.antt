use Rattle.std.proofs.Common.{IfSome, IfErr, IfOk, rules, ◌++◌, ◌∙◌, ap, refl, subst, sym, take}
use Rattle.bg_http_read.specs.Streams.{Leaves}
use Rattle.bg_http_read.specs.Responses.{ReadsResponse, ResponseFails}
use Rattle.bg_http_read.specs.ResponseStates.{IsRead, IsRefused}
use Rattle.bg_http_read.proofs.InterimTaken.{machine_reading}
use Rattle.bg_http_read.proofs.Pieces.{Came, came_behind, came_straight, ended_err, ended_ok, none_came, whole_input}
use Rattle.bg_http_read.proofs.StreamFaults.{if_err_is}
use Rattle.bg_http_read.proofs.response_read.read_with.Goals as goal

pub loop-init : goal.loop-init
loop-init g c =
    let first = g.S.Read.remaining c.args.stream.now in
    record {
      came = subst (λ l. Leaves (Came l) first first) (sym c.requires.seen) (none_came first);
      request = refl;
      goes_on = c.requires.is_open;
      size = refl;
    }

pub returns-in_default-clause-fault : goal.returns-in_default-clause-fault
returns-in_default-clause-fault g c =
    machine_reading c.args.parser.now.request (g.S.Read.remaining c.args.stream.now)

pub returns-clause-fault : goal.returns-clause-fault
returns-clause-fault g c =
    machine_reading c.args.parser.now.request (g.S.Read.remaining c.args.stream.now)

pub returns-in_default-arrival-clause-response : goal.returns-in_default-arrival-clause-response
returns-in_default-arrival-clause-response g c =
    let request = c.args.parser.now.request in
    let first = g.S.Read.remaining c.args.stream.now in
    let next = g.S.Read.remaining c.read_more.new.stream in
    let more = c.in-Some.ensures.came in
    let seen = c.read_more.new.self.seen in
    let end = rw c.in_default-arrival.is at more.2 in
    let came = came_straight c.loop.parser.seen more.0 seen first (g.S.Read.remaining c.loop.stream) next c.loop.invariant.came (ap (λ p. p.seen) more.1) end.0 in
    ended_ok (ReadsResponse request) c.finish.result seen first next came end.1
    (subst (λ r. IfOk c.finish.result (λ response. ReadsResponse r response seen)) (ap (λ p. p.request) more.1 ∙ c.loop.invariant.request) c.finish.ensures.response)

pub returns-in_default-arrival-clause-fault : goal.returns-in_default-arrival-clause-fault
returns-in_default-arrival-clause-fault g c =
    let request = c.args.parser.now.request in
    let first = g.S.Read.remaining c.args.stream.now in
    let next = g.S.Read.remaining c.read_more.new.stream in
    let more = c.in-Some.ensures.came in
    let seen = c.read_more.new.self.seen in
    let end = rw c.in_default-arrival.is at more.2 in
    let came = came_straight c.loop.parser.seen more.0 seen first (g.S.Read.remaining c.loop.stream) next c.loop.invariant.came (ap (λ p. p.seen) more.1) end.0 in
    ended_err (λ e i. ResponseFails request i e) c.finish.result seen first next came end.1
    (subst (λ r. IfErr c.finish.result (ResponseFails r seen)) (ap (λ p. p.request) more.1 ∙ c.loop.invariant.request) c.finish.ensures.refused)

pub returns-in_err-response-clause-fault : goal.returns-in_err-response-clause-fault
returns-in_err-response-clause-fault g c =
    let request = c.args.parser.now.request in
    let first = g.S.Read.remaining c.args.stream.now in
    let next = g.S.Read.remaining c.read_more.new.stream in
    let more = c.in-Some.ensures.came in
    let bytes = take c.in-Piece.count c.read_more.new.piece in
    let seen = c.read_more.new.self.seen in
    let e = c.in_err-response.field-0.0 in
    let behind = rw c.in-Piece.is at more.2 in
    let came = came_behind c.loop.parser.seen more.0 seen bytes first (g.S.Read.remaining c.loop.stream) next c.loop.invariant.came (ap (λ p. p.seen) more.1) behind.1 in
    let refused = subst (λ r. IsRefused r e (seen ++ bytes)) (ap (λ p. p.request) more.1 ∙ c.loop.invariant.request) c.in_err-response.ensures.refused in
    if_err_is (λ f. IfSome first (λ input. ResponseFails request input f)) c.from_residual.result e c.from_residual.ensures.1
    (whole_input (λ i. ResponseFails request i e) (seen ++ bytes) first next came refused)

pub returns-in-Some-2-clause-response : goal.returns-in-Some-2-clause-response
returns-in-Some-2-clause-response g c =
    let request = c.args.parser.now.request in
    let first = g.S.Read.remaining c.args.stream.now in
    let next = g.S.Read.remaining c.read_more.new.stream in
    let more = c.in-Some.ensures.came in
    let bytes = take c.in-Piece.count c.read_more.new.piece in
    let seen = c.read_more.new.self.seen in
    let behind = rw c.in-Piece.is at more.2 in
    let came = came_behind c.loop.parser.seen more.0 seen bytes first (g.S.Read.remaining c.loop.stream) next c.loop.invariant.came (ap (λ p. p.seen) more.1) behind.1 in
    let read = rw c.in-Some-2.is at c.in_ok-response.ensures.response in
    whole_input (ReadsResponse request c.in-Some-2.response) (seen ++ bytes) first next came
    (subst (λ r. IsRead r c.in-Some-2.response (seen ++ bytes)) (ap (λ p. p.request) more.1 ∙ c.loop.invariant.request) read)

pub loop-preserved : goal.loop-preserved
loop-preserved g c =
    let first = g.S.Read.remaining c.args.stream.now in
    let next = g.S.Read.remaining c.read_more.new.stream in
    let more = c.in-Some.ensures.came in
    let bytes = take c.in-Piece.count c.read_more.new.piece in
    let seen = c.read_more.new.self.seen in
    let behind = rw c.in-Piece.is at more.2 in
    let came = came_behind c.loop.parser.seen more.0 seen bytes first (g.S.Read.remaining c.loop.stream) next c.loop.invariant.came (ap (λ p. p.seen) more.1) behind.1 in
    let same = (rw c.in_default-2.is at c.in_ok-response.ensures.none_yet).0 in
    record {
      came = subst (λ p. Leaves (Came p.seen) first next) (sym same) came;
      request = ap (λ p. p.request) same ∙ ap (λ p. p.request) more.1 ∙ c.loop.invariant.request;
      goes_on = ap (λ p. p.is_open) same ∙ ap (λ p. p.is_open) more.1 ∙ c.loop.invariant.goes_on;
      size = search rules;
    }
