use Rattle.bg_streams.proofs.StreamLemmas.{waits_shortly}
use Rattle.bg_streams.proofs.stream_laws.what_waits_is_short.Goals as goal

pub returns : goal.returns
returns c = waits_shortly c.what_waits_is_short.ensures
