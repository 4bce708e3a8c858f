use Rattle.bg_http.proofs.Appended.{appends_then}
use Rattle.bg_http.proofs.writers.write_response.Goals as goal

pub returns : goal.returns
returns g c =
    let said = g.W.Write.contents in
    appends_then c.write_sent.result (said c.args.writer.now) (said c.write_response_head.new.writer)
    (said c.write_sent.new.writer) _ _ c.in_ok-write_response_head.ensures c.write_sent.ensures
