use Rattle.bg_event_loop.proofs.TurnLemmas.{takes_route}
use Rattle.bg_event_loop.proofs.laws.a_request_of_a_book_takes_a_route.Goals as goal

pub returns : goal.returns
returns c ticket first others last = takes_route _ ticket first others last
