use Rattle.std.proofs.Common.{not, rules, tests}
use Rattle.std.proofs.lemmas.Iterator.Consumers.{YieldsList-from_first}
use Rattle.std.proofs.lemmas.Iterator.Search.{any_from_yields_List}
use Rattle.bg_http.specs.Codings.{is_empty}
use Rattle.bg_http.specs.Held.{elements_left}
use Rattle.bg_upgrade.proofs.elements.names_protocol.Goals as goal

pub returns : goal.returns
returns c =
    any_from_yields_List (λ protocol. not (is_empty protocol)) c.any.new.self _ _ c.any.ensures.ran
    (YieldsList-from_first (λ x. x.now) elements_left {s = c.elements_named.result} _ c.elements_named.ensures)
    (λ x b q k. search (rules, tests))
