use Rattle.bg_history_laws.specs.Journaled.{journaled}
use Rattle.bg_rollout.proofs.JournalsFollowed.{only_shortage}
use Rattle.bg_rollout.proofs.laws.journals_are_followed.Goals as goal

pub returns : goal.returns
returns c s o closed past seats limits fault legal least most is =
    let kept = c.journals.ensures s o closed past legal in
    only_shortage s (record o { seats = seats }) limits (journaled past) fault (kept.legal seats least most).allowed kept.no_request is
