use Rattle.std.proofs.Common.{◌∙◌}
use Rattle.bg_http.proofs.RuledNames.{not_ruled, ruled_in_lower_case}
use Rattle.bg_http.proofs.names.ruled_name.Goals as goal

pub returns-in_err-found : goal.returns-in_err-found
returns-in_err-found c = rw c.from_residual.ensures (not_ruled c.args.name.now c.in_err-found.ensures.found)

pub returns : goal.returns
returns c =
    ruled_in_lower_case c.args.name.now c.as_str.result.now c.ruled_as.result (c.as_str.ensures.value ∙ c.in_ok-found.ensures.value)
    c.ruled_as.ensures.found c.ruled_as.ensures.none
