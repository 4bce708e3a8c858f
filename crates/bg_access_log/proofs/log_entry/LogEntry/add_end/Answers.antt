use Rattle.bg_access_log.proofs.Adding.{added_then, adds_then}
use Rattle.bg_access_log.proofs.log_entry.LogEntry.add_end.Goals as goal

pub returns : goal.returns
returns c =
    let one = rw c.as_number.ensures at c.in_ok-add_number.ensures in
    let two = added_then _ _ _ _ _ one c.in_ok-add_text.ensures in
    adds_then _ _ _ _ _ _ two c.add_text-2.ensures
