use Rattle.std.proofs.Common.{◌==◌, not, rules}
use Rattle.std.proofs.lemmas.Fn.{filter_same}
use Rattle.bg_endpoints.specs.declared.port_state.PortState.{PortState}
use Rattle.bg_endpoints.proofs.table.forget.Goals as goal

pub returns : goal.returns
returns c =
    filter_same _ (λ (x : PortState). not (x.port == c.args.port)) _ (λ x b f' k. search rules) _ _
    c.retain.ensures.filtered
