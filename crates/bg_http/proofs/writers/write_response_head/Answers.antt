use Rattle.bg_http.proofs.Appended.{appends_both, appends_then}
use Rattle.bg_http.proofs.writers.write_response_head.Goals as goal

pub returns : goal.returns
returns g c =
    let said = g.W.Write.contents in
    let first = said c.args.writer.now in
    appends_then c.write_end_of_head.result first (said c.write_body_end.new.writer) (said c.write_end_of_head.new.writer) _ _
    (appends_both first (said c.write_response_fields.new.writer) (said c.write_body_end.new.writer) _ _
    (appends_both first (said c.write_status_line.new.writer) (said c.write_response_fields.new.writer) _ _
    c.in_ok-write_status_line.ensures c.in_ok-write_response_fields.ensures) c.in_ok-write_body_end.ensures)
    c.write_end_of_head.ensures
