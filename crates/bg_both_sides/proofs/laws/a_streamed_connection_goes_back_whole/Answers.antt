use Rattle.bg_both_sides.proofs.BackLemmas.{stream_goes_back_whole, taken_goes_back_whole}
use Rattle.bg_both_sides.proofs.laws.a_streamed_connection_goes_back_whole.Goals as goal

pub returns-clause-endpoint : goal.returns-clause-endpoint
returns-clause-endpoint c old new event now ending telling = stream_goes_back_whole old new event now ending telling

pub returns-clause-client : goal.returns-clause-client
returns-clause-client c old new bytes now ending telling = taken_goes_back_whole old new bytes now ending telling
