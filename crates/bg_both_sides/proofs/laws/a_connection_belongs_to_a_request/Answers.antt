use Rattle.std.proofs.Common.{◌≡◌, false, refl}
use Rattle.bg_client_side.specs.Stages.{is_inside}
use Rattle.bg_both_sides.proofs.BackLemmas.{stream_loses_its_connection, taken_loses_its_connection}
use Rattle.bg_both_sides.proofs.EndpointLemmas.{loses_its_connection}
use Rattle.bg_both_sides.proofs.RunLemmas.{runs_its_client}
use Rattle.bg_both_sides.specs.Laws.{begun}
use Rattle.bg_both_sides.specs.Sides.{IsSound, Sides}
use Rattle.bg_both_sides.specs.declared.endpoint_side.EndpointSide.{EndpointSide}
use Rattle.bg_both_sides.specs.declared.endpoint_side.EndpointSide.TheVariants as side
use Rattle.bg_both_sides.proofs.laws.a_connection_belongs_to_a_request.Goals as goal

none_outside : (e : EndpointSide) (s : Sides) → IsSound s.client e → is_inside s.client.stage ≡ false → e ≡ side.NoRequest
none_outside side.NoRequest s sound out = refl
none_outside (side.Entered request) s sound out = absurd (cc)
none_outside (side.Dialing request dialing) s sound out = absurd (let inside = sound.0 in cc)
none_outside (side.Forwarding request forwarded) s sound out = absurd (let inside = sound.0 in cc)
none_outside (side.Streaming request streamed) s sound out = absurd (let inside = sound.0 in cc)

pub returns-clause-inside : goal.returns-clause-inside
returns-clause-inside c settings now calls new runs out =
    let law = c.a_text_is_written_in_its_order.ensures.stays in
    none_outside new.endpoint new (runs_its_client law calls (begun settings now) new refl runs).1 out

pub returns-clause-answered : goal.returns-clause-answered
returns-clause-answered c old new event now ending reply = loses_its_connection event old new now ending reply

pub returns-clause-streamed : goal.returns-clause-streamed
returns-clause-streamed c old new event now ending telling = stream_loses_its_connection old new event now ending telling

pub returns-clause-taken : goal.returns-clause-taken
returns-clause-taken c old new passed bytes now ending telling =
    taken_loses_its_connection old new passed bytes now ending telling
