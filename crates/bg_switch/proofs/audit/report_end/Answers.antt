use Rattle.std.proofs.lemmas.Result.{on_ok_weaker}
use Rattle.bg_switch.proofs.audit.report_end.Goals as goal

pub returns : goal.returns
returns g c =
    let made = c.in_ok-book in
    on_ok_weaker c.report-reported.result (λ wrote. (made.seats.items, (made.book, (made.ensures.book, wrote)))) c.report-reported.ensures
