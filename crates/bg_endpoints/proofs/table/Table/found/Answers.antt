use Rattle.std.proofs.Common.{arith, rules}
use Rattle.std.proofs.lemmas.Iterator.{YieldsList-from_slice}
use Rattle.std.proofs.lemmas.Iterator.Search.{find_from_yields_List}
use Rattle.bg_endpoints.specs.Choices.{passes}
use Rattle.bg_endpoints.proofs.table.Table.found.Goals as goal

pub returns : goal.returns
returns c =
    find_from_yields_List
    (λ port. passes c.args.self.now c.args.list.now c.args.tried.now c.args.criteria port)
    _ _ _ c.find.ensures.ran (YieldsList-from_slice c.args.ports.now cc)
    (λ x b q k. first_of (search (rules, k), grind (arith, k)))
