use Rattle.std.proofs.Common.{◌==◌, not, rules}
use Rattle.std.proofs.lemmas.Fn.{filter_same}
use Rattle.bg_revisions.specs.declared.revision.Revision.{Revision}
use Rattle.bg_audit.proofs.revisions.remove.Goals as goal

pub returns : goal.returns
returns c = filter_same _ (λ (x : Revision). not (x.number == c.args.number)) _ (λ x b f' k. search rules) _ _ c.retain.ensures.filtered
