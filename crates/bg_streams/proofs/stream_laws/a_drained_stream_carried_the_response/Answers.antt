use Rattle.bg_streams.proofs.StreamLemmas.{drains_whole}
use Rattle.bg_streams.proofs.stream_laws.a_drained_stream_carried_the_response.Goals as goal

pub returns : goal.returns
returns c = drains_whole c.a_drained_connection_carried_the_response.ensures
