use Rattle.std.proofs.Common.{rules, tests, refl}
use Rattle.std.proofs.lemmas.Iterator.Consumers.{YieldsList-from_first}
use Rattle.std.proofs.lemmas.Iterator.Search.{all_from_yields_List}
use Rattle.bg_http.specs.Held.{elements_left}
use Rattle.bg_http.specs.Lengths.{has_digits}
use Rattle.bg_http.proofs.lengths.all_have_digits.Goals as goal

pub returns : goal.returns
returns c =
    all_from_yields_List (has_digits c.args.digits.now) c.all.new.self _ _ c.all.ensures.ran
    (YieldsList-from_first (λ x. x.now) elements_left {s = c.args.elements} _ refl) (λ x b q k. search (rules, tests))
