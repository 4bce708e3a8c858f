use Rattle.std.proofs.Common.{Option, ℕ, ap, ◌∙◌}
use Rattle.std.specs.Option.{option_or}
use Rattle.bg_endpoints.specs.Choices.{first_by}
use Rattle.bg_endpoints.specs.declared.table.Choice.{Choice}
use Rattle.bg_endpoints.specs.declared.table.Choice.TheVariants as choice
use Rattle.bg_endpoints.specs.declared.table.Criteria.{Criteria}
use Rattle.bg_endpoints.proofs.table.Table.choose_of.Goals as goal

pub returns : goal.returns
returns c =
    let first : Criteria → Option ℕ = λ k. first_by c.args.self.now c.args.list.now c.args.tried.now k in
    let by : Choice → Option ℕ = λ x. first (record c.args.criteria { choice = x }) in
    let free = c.first.ensures ∙ ap first c.with.ensures in
    let unmarked = c.first-2.ensures ∙ ap first c.with-2.ensures in
    let any = c.first-3.ensures ∙ ap first c.with-3.ensures in
    let either = c.or.ensures ∙ (ap (λ o. option_or o c.first-2.result) free ∙ ap (option_or (by choice.Free)) unmarked) in
    c.or-2.ensures ∙ (ap (λ o. option_or o c.first-3.result) either ∙ ap (option_or (option_or (by choice.Free) (by choice.Unmarked))) any)
