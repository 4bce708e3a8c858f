use Rattle.bg_access_log.proofs.Adding.{added_then, adds_then}
use Rattle.bg_access_log.proofs.log_entry.LogEntry.add_request.Goals as goal

pub returns : goal.returns
returns c =
    let one = rw c.text_of.ensures at c.in_ok-add_text.ensures in
    let two = added_then _ _ _ _ _ one c.in_ok-add_text-2.ensures in
    let three = added_then _ _ _ _ _ two c.in_ok-add_number.ensures in
    let four = added_then _ _ _ _ _ three c.in_ok-add_number-2.ensures in
    let five = added_then _ _ _ _ _ four (rw c.as_number.ensures at c.in_ok-add_number-3.ensures) in
    let six = added_then _ _ _ _ _ five (rw c.as_text.ensures at c.in_ok-add_text-3.ensures) in
    adds_then _ _ _ _ _ _ six (rw c.as_text-2.ensures at c.add_text-4.ensures)
