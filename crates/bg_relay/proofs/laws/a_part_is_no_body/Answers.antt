use Rattle.bg_relay.proofs.LawLemmas.{holds_no_body}
use Rattle.bg_relay.proofs.laws.a_part_is_no_body.Goals as goal

pub returns : goal.returns
returns c = holds_no_body
