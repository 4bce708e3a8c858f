use Rattle.std.proofs.Common.{rules, tests, ◌∙◌}
use Rattle.std.proofs.lemmas.Iterator.Consumers.{YieldsList-from_first, YieldsList-from_filter, count_from_yields_List}
use Rattle.std.proofs.lemmas.List.Sums.{length-filter}
use Rattle.bg_http.specs.Elements.{is_named}
use Rattle.bg_http.specs.Names.{spelled}
use Rattle.bg_http.proofs.request_rules.count_named.Goals as goal

pub returns : goal.returns
returns c =
    count_from_yields_List {v = λ x. x} {all = _} c.filter.result c.count.result c.count.ensures.ran
    (YieldsList-from_filter _ (is_named (spelled c.args.name))
    (YieldsList-from_first (λ x. x) (λ left. left) c.args.fields.now (c.filter.ensures.source ∙ c.get.ensures)) c.filter.ensures.closure (λ x b q k. search (rules, tests)))
    ∙ length-filter (is_named (spelled c.args.name)) c.args.fields.now
