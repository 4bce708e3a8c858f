use Rattle.std.proofs.Common.{◌==◌, not, rules}
use Rattle.std.proofs.lemmas.Fn.{filter_same}
use Rattle.bg_audit.specs.declared.requests.AuditedRequest.{AuditedRequest}
use Rattle.bg_audit.proofs.requests.drop_request.Goals as goal

pub returns : goal.returns
returns c = filter_same _ (λ (x : AuditedRequest). not (x.number == c.args.number)) _ (λ x b f' k. search rules) _ _ c.retain.ensures.filtered
