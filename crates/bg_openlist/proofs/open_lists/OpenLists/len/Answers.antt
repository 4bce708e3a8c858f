use Rattle.std.proofs.Common.{length, ap, arith}
use Rattle.bg_openlist.proofs.Callers.{family_seen, len_seen, none_seen}
use Rattle.bg_openlist.proofs.open_lists.OpenLists.len.Goals as goal

pub returns-then-list-lt-LISTS-clause-len : goal.returns-then-list-lt-LISTS-clause-len
returns-then-list-lt-LISTS-clause-len g c = len_seen c.self.invariant c.self.view_is c.args.list (omega (arith, c.if-list-lt-LISTS.true))

pub returns-then-list-lt-LISTS-clause-family : goal.returns-then-list-lt-LISTS-clause-family
returns-then-list-lt-LISTS-clause-family g c = family_seen c.self.invariant c.self.view_is

pub returns-else-list-lt-LISTS-clause-len : goal.returns-else-list-lt-LISTS-clause-len
returns-else-list-lt-LISTS-clause-len g c = ap length (none_seen c.self.invariant c.self.view_is c.args.list (omega (arith, c.if-list-lt-LISTS.false)))

pub returns-else-list-lt-LISTS-clause-family : goal.returns-else-list-lt-LISTS-clause-family
returns-else-list-lt-LISTS-clause-family g c = family_seen c.self.invariant c.self.view_is
