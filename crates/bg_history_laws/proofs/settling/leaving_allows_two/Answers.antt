use Rattle.bg_history_laws.proofs.Ended.Leaving.{leaving-allows_two}
use Rattle.bg_history_laws.proofs.settling.leaving_allows_two.Goals as goal

pub returns : goal.returns
returns c s past seat number r outcomes =
    leaving-allows_two s past seat number r outcomes (c.existing_ascends.ensures past)
