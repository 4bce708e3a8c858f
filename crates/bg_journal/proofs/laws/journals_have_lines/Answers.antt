use Rattle.std.proofs.Common.{lit≤}
use Rattle.bg_history_laws.specs.Journaled.{journaled}
use Rattle.bg_journal.proofs.LegalEntries.{allowed_have_lines}
use Rattle.bg_journal.proofs.laws.journals_have_lines.Goals as goal

pub returns : goal.returns
returns c s o closed past legal =
    let kept = c.journals.ensures s o closed past legal in
    allowed_have_lines s (record o { seats = 1 }) (journaled past) (kept.legal 1 (lit≤ tt) (lit≤ tt)).allowed kept.no_request
