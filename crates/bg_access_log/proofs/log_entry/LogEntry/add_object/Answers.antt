use Rattle.json.specs.Token.{begin_object, end_object}
use Rattle.bg_access_log.proofs.Adding.{added_then, adds, adds_then}
use Rattle.bg_access_log.proofs.log_entry.LogEntry.add_object.Goals as goal

pub returns : goal.returns
returns c =
    let begun = adds c.begin_object.result _ _ begin_object c.begin_object.ensures in
    let one = rw c.in_ok-begin_object.was at begun in
    let two = added_then _ _ _ _ _ one c.in_ok-add_request.ensures in
    let three = added_then _ _ _ _ _ two c.in_ok-add_end.ensures in
    let four = added_then _ _ _ _ _ three c.in_ok-add_counts.ensures in
    let five = added_then _ _ _ _ _ four c.in_ok-add_optional.ensures in
    adds_then _ _ _ _ _ _ five (adds c.end_object.result _ _ end_object c.end_object.ensures)
