use Rattle.bg_http.proofs.Appended.{appends_both, appends_then}
use Rattle.bg_http.proofs.writers.write_framed_request_head.Goals as goal

pub returns : goal.returns
returns g c =
    let said = g.W.Write.contents in
    let first = said c.args.writer.now in
    appends_then c.write_end_of_head.result first (said c.write_framing.new.writer) (said c.write_end_of_head.new.writer) _ _
    (appends_both first (said c.write_via.new.writer) (said c.write_framing.new.writer) _ _
    (appends_both first (said c.write_request_fields.new.writer) (said c.write_via.new.writer) _ _
    (appends_both first (said c.write_host.new.writer) (said c.write_request_fields.new.writer) _ _
    (appends_both first (said c.write_request_line.new.writer) (said c.write_host.new.writer) _ _
    c.in_ok-write_request_line.ensures c.in_ok-write_host.ensures) c.in_ok-write_request_fields.ensures) c.in_ok-write_via.ensures)
    c.in_ok-write_framing.ensures) c.write_end_of_head.ensures
