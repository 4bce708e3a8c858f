use Rattle.bg_history_laws.proofs.Promised.OpenRequests.{leaving-own}
use Rattle.bg_history_laws.proofs.Promised.Serving.{served, served-now, served-step, served-compacted}
use Rattle.bg_history_laws.proofs.promises.keeps_requests.Goals as goal

pub returns-clause-every : goal.returns-clause-every
returns-clause-every c s o closed past q legal is = served-now c.reachable.ensures s o past q legal.opening legal.allowed is

pub returns-clause-served : goal.returns-clause-served
returns-clause-served c s o closed later past q t legal = served c.reachable.ensures s o later past q t legal.opening legal.allowed

pub returns-clause-stepped : goal.returns-clause-stepped
returns-clause-stepped c s o e past outcomes new q t = served-step s o e past outcomes new q t

pub returns-clause-compacted : goal.returns-clause-compacted
returns-clause-compacted c s o closed past q t legal = served-compacted s o past q t (c.compacts.ensures s o closed past legal).same

pub returns-clause-own : goal.returns-clause-own
returns-clause-own c s o closed past seat number r legal may = leaving-own s o past seat number r legal.allowed may
