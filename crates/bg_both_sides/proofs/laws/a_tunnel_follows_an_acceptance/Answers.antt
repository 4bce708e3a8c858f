use Rattle.bg_both_sides.proofs.TunnelLemmas.{begins_tunnel}
use Rattle.bg_both_sides.proofs.laws.a_tunnel_follows_an_acceptance.Goals as goal

pub returns : goal.returns
returns c settings now calls old bytes at weight upgraded new =
    begins_tunnel c.a_text_is_written_in_its_order.ensures.stays settings now calls old bytes at weight upgraded new
