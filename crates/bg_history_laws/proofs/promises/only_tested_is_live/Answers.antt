use Rattle.bg_history_laws.proofs.Promised.Live.{only-tested, live-tested, live-by_hand}
use Rattle.bg_history_laws.proofs.promises.only_tested_is_live.Goals as goal

pub returns-clause-live : goal.returns-clause-live
returns-clause-live c s o closed past legal = only-tested s o past legal.allowed

pub returns-clause-tested : goal.returns-clause-tested
returns-clause-tested c = live-tested

pub returns-clause-by_hand : goal.returns-clause-by_hand
returns-clause-by_hand c = live-by_hand
