use Rattle.bg_http.proofs.Appended.{appends_both, appends_then}
use Rattle.bg_http.proofs.writers.write_request_line.Goals as goal

pub returns : goal.returns
returns g c =
    let said = g.W.Write.contents in
    let first = said c.args.writer.now in
    rw (← c.get.ensures, ← c.get-2.ensures)
    (appends_then c.write_all-4.result first (said c.write_all-3.new.self) (said c.write_all-4.new.self) _ _
    (appends_both first (said c.write_all-2.new.self) (said c.write_all-3.new.self) _ _
    (appends_both first (said c.write_all.new.self) (said c.write_all-2.new.self) _ _
    c.in_ok-write_all.ensures.bytes c.in_ok-write_all-2.ensures.bytes) c.in_ok-write_all-3.ensures.bytes) c.write_all-4.ensures.bytes)
