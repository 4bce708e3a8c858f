use Rattle.std.proofs.Common.{[], subst}
use Rattle.bg_both_sides.proofs.EndpointLemmas.{goes_back_whole}
use Rattle.bg_both_sides.proofs.RequestTexts.{of_its_request, tracked}
use Rattle.bg_both_sides.proofs.TrackLemmas.{Tracks}
use Rattle.bg_both_sides.specs.Runs.{came_in, sent_in}
use Rattle.bg_both_sides.specs.Sides.{IsSound}
use Rattle.bg_both_sides.proofs.laws.an_endpoint_gets_its_request.Goals as goal

pub returns-clause-text : goal.returns-clause-text
returns-clause-text c settings now calls new request forwarded runs at_is =
    let facts = subst (λ e. Tracks e (sent_in [] calls) (came_in [] calls) × IsSound new.client e) at_is
    (tracked c.a_text_is_written_in_its_order.ensures.stays settings now calls new runs) in
    of_its_request request forwarded (sent_in [] calls) (came_in [] calls) facts.0 facts.1.1

pub returns-clause-whole : goal.returns-clause-whole
returns-clause-whole c old new event now ending reply =
    goes_back_whole c.a_connection_goes_back_drained.ensures event old new now ending reply
