use Rattle.bg_access_log.proofs.Adding.{added_then, adds_then}
use Rattle.bg_access_log.proofs.log_entry.LogEntry.add_counts.Goals as goal

pub returns : goal.returns
returns c =
    let one = c.in_ok-add_number.ensures in
    let two = added_then _ _ _ _ _ one c.in_ok-add_number-2.ensures in
    let three = added_then _ _ _ _ _ two c.in_ok-add_number-3.ensures in
    adds_then _ _ _ _ _ _ three c.add_number-4.ensures
