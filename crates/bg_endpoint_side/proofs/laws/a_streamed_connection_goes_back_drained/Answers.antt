use Rattle.bg_endpoint_side.proofs.StreamingLemmas.{goes_back_drained}
use Rattle.bg_endpoint_side.proofs.laws.a_streamed_connection_goes_back_drained.Goals as goal

pub returns : goal.returns
returns c = goes_back_drained c.a_drained_stream_carried_the_response.ensures
