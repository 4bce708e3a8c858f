use Rattle.bg_upgrade.proofs.LawLemmas.{one_answer}
use Rattle.bg_upgrade.proofs.laws.a_head_has_one_answer.Goals as goal

pub returns : goal.returns
returns c = one_answer c.an_input_has_one_head.ensures.one
