use Rattle.std.proofs.Common.{rules, tests, ◌≡◌, Option, Some, None, refl, ◌∙◌}
use Rattle.std.specs.Option.{option_map}
use Rattle.std.proofs.lemmas.Iterator.Consumers.{YieldsList-from_first}
use Rattle.std.proofs.lemmas.Iterator.Search.{find_from_yields_List}
use Rattle.bg_http.specs.Elements.{Field, is_named}
use Rattle.bg_origin.proofs.kept.first_named.Goals as goal

same : (r : Option Field) → r ≡ option_map (λ x. x) r
same None = refl
same (Some f) = refl

pub returns : goal.returns
returns c =
    same c.find.result
    ∙ find_from_yields_List (is_named c.args.name.now) c.find.new.self _ c.find.result c.find.ensures.ran
    (YieldsList-from_first (λ x. x) (λ left. left) c.args.fields.now c.get.ensures) (λ x b q k. search (rules, tests))
