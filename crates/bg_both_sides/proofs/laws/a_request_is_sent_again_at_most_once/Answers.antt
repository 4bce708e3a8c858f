use Rattle.bg_both_sides.proofs.BackLemmas.{stream_repeats_by_rule}
use Rattle.bg_both_sides.proofs.EndpointLemmas.{repeats_by_rule}
use Rattle.bg_both_sides.proofs.RepeatRuns.{repeats_once}
use Rattle.bg_both_sides.proofs.laws.a_request_is_sent_again_at_most_once.Goals as goal

pub returns-clause-once : goal.returns-clause-once
returns-clause-once c calls old new = repeats_once calls old new

pub returns-clause-rule : goal.returns-clause-rule
returns-clause-rule c old new event now reply = repeats_by_rule event old new now reply

pub returns-clause-streamed_rule : goal.returns-clause-streamed_rule
returns-clause-streamed_rule c old new event now telling = stream_repeats_by_rule old new event now telling
