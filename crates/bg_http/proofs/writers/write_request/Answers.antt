use Rattle.bg_http.proofs.Appended.{appends_then}
use Rattle.bg_http.proofs.writers.write_request.Goals as goal

pub returns : goal.returns
returns g c =
    let said = g.W.Write.contents in
    appends_then c.write_given.result (said c.args.writer.now) (said c.write_request_head.new.writer)
    (said c.write_given.new.writer) _ _ c.in_ok-write_request_head.ensures c.write_given.ensures
