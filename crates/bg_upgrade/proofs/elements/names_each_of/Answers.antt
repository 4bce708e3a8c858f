use Rattle.std.proofs.Common.{◌||◌, rules, tests}
use Rattle.std.proofs.lemmas.Iterator.Consumers.{YieldsList-from_first}
use Rattle.std.proofs.lemmas.Iterator.Search.{all_from_yields_List}
use Rattle.bg_http.specs.Codings.{is_empty}
use Rattle.bg_http.specs.Held.{elements_left}
use Rattle.bg_upgrade.specs.Upgrades.{names_this}
use Rattle.bg_upgrade.proofs.elements.names_each_of.Goals as goal

pub returns : goal.returns
returns c =
    all_from_yields_List (λ protocol. is_empty protocol || names_this c.args.fields.now protocol) c.all.new.self _ _
    c.all.ensures.ran
    (YieldsList-from_first (λ x. x.now) elements_left {s = c.elements_named.result} _ c.elements_named.ensures)
    (λ x b q k. search (rules, tests))
