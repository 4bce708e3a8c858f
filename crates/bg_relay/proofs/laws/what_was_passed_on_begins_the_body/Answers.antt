use Rattle.bg_relay.proofs.BodyFronts.{begins_bodies}
use Rattle.bg_relay.proofs.laws.what_was_passed_on_begins_the_body.Goals as goal

pub returns : goal.returns
returns c = begins_bodies
