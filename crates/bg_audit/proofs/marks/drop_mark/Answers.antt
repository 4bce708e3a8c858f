use Rattle.std.proofs.Common.{◌==◌, not, rules}
use Rattle.std.proofs.lemmas.Fn.{filter_same}
use Rattle.bg_audit.specs.declared.marks.NewestMark.{NewestMark}
use Rattle.bg_audit.proofs.marks.drop_mark.Goals as goal

pub returns : goal.returns
returns c = filter_same _ (λ (x : NewestMark). not (x.revision == c.args.revision)) _ (λ x b f' k. search rules) _ _ c.retain.ensures.filtered
