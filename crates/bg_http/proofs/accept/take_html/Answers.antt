use Rattle.std.proofs.Common.{rules, tests, refl}
use Rattle.std.proofs.lemmas.Iterator.Consumers.{YieldsList-from_first}
use Rattle.std.proofs.lemmas.Iterator.Search.{any_from_yields_List}
use Rattle.bg_http.specs.Accepts.{takes_html}
use Rattle.bg_http.specs.Held.{elements_left}
use Rattle.bg_http.proofs.accept.take_html.Goals as goal

pub returns : goal.returns
returns c =
    any_from_yields_List takes_html c.any.new.self _ _ c.any.ensures.ran
    (YieldsList-from_first (λ x. x.now) elements_left {s = c.args.elements} _ refl) (λ x b q k. search (rules, tests))
