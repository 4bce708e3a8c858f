use Rattle.std.proofs.Common.{[], subst}
use Rattle.bg_both_sides.proofs.EndingLemmas.{ends_by_its_client, ends_by_its_endpoint}
use Rattle.bg_both_sides.proofs.RequestTexts.{of_its_request, tracked}
use Rattle.bg_both_sides.proofs.StandsLemmas.{passes_on_its_response}
use Rattle.bg_both_sides.proofs.TrackLemmas.{Tracks}
use Rattle.bg_both_sides.specs.Runs.{came_in, sent_in}
use Rattle.bg_both_sides.specs.Sides.{IsSound}
use Rattle.bg_both_sides.proofs.laws.a_response_is_passed_on_to_its_request.Goals as goal

pub returns-clause-text : goal.returns-clause-text
returns-clause-text c settings now calls new request streamed runs at_is =
    let facts = subst (λ e. Tracks e (sent_in [] calls) (came_in [] calls) × IsSound new.client e) at_is
    (tracked c.a_text_is_written_in_its_order.ensures.stays settings now calls new runs) in
    of_its_request request streamed.forwarded (sent_in [] calls) (came_in [] calls) facts.0 facts.1.1

pub returns-clause-response : goal.returns-clause-response
returns-clause-response c settings now calls new request streamed =
    passes_on_its_response c.a_text_is_written_in_its_order.ensures.stays settings now calls new request streamed

pub returns-clause-endpoint : goal.returns-clause-endpoint
returns-clause-endpoint c settings now calls old event at told text weight persistence new =
    ends_by_its_endpoint c.a_text_is_written_in_its_order.ensures.stays settings now calls old event at told text weight persistence new

pub returns-clause-client : goal.returns-clause-client
returns-clause-client c settings now calls old bytes at told text weight persistence new =
    ends_by_its_client c.a_text_is_written_in_its_order.ensures.stays settings now calls old bytes at told text weight persistence new
