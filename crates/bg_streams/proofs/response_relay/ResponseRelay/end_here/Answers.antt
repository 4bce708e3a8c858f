use Rattle.bg_streams.proofs.ResponseLemmas.{end_kept, end_passes, open_at}
use Rattle.bg_streams.proofs.response_relay.ResponseRelay.end_here.Goals as goal

pub returns-in-Some-clause-stands : goal.returns-in-Some-clause-stands
returns-in-Some-clause-stands c =
    end_passes c.end_input.result c.args.self.now c.in-Some.passing c.end_input.new.self c.in-Some.is c.end_input.ensures.same
    c.end_input.ensures.stands

pub returns-in-Some-clause-kept : goal.returns-in-Some-clause-kept
returns-in-Some-clause-kept c =
    end_kept c.end_input.result c.args.self.now c.end_input.new.self (open_at c.args.self.now c.in-Some.passing c.in-Some.is c.requires)
    c.end_input.ensures.kept
