use Rattle.std.proofs.Common.{rules, tests}
use Rattle.std.proofs.lemmas.Iterator.Consumers.{YieldsList-from_first}
use Rattle.std.proofs.lemmas.Iterator.Search.{any_from_yields_List}
use Rattle.bg_http.specs.Elements.{is_named}
use Rattle.bg_origin.proofs.kept.has_field.Goals as goal

pub returns : goal.returns
returns c =
    any_from_yields_List (is_named c.args.name.now) c.any.new.self _ _ c.any.ensures.ran
    (YieldsList-from_first (λ x. x) (λ left. left) c.args.fields.now c.get.ensures) (λ x b q k. search (rules, tests))
