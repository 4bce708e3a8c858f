use Rattle.bg_both_sides.proofs.RunLemmas.{runs_its_client}
use Rattle.bg_both_sides.proofs.laws.the_clients_side_runs.Goals as goal

pub returns : goal.returns
returns c calls old new = runs_its_client c.a_text_is_written_in_its_order.ensures.stays calls old new
