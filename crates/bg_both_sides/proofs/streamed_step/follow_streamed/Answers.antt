use Rattle.std.proofs.Common.{refl, subst, sym}
use Rattle.bg_both_sides.specs.Sides.{Sides}
use Rattle.bg_both_sides.specs.StreamedEvents.{FollowsStreamed, Telling, nothing}
use Rattle.bg_both_sides.specs.declared.endpoint_side.EndpointSide.TheVariants as side
use Rattle.bg_both_sides.specs.declared.endpoint_step.EndpointStep.TheVariants as steps
use Rattle.bg_both_sides.proofs.streamed_step.follow_streamed.Goals as goal

pub returns-in-GoesOn : goal.returns-in-GoesOn
returns-in-GoesOn c =
    let request = c.args.request in
    let after : Sides = record { client = c.show.new.client; endpoint = side.Streaming request c.in-GoesOn.streamed } in
    subst (λ next. (telling : Telling) × FollowsStreamed request next c.args.now c.args.client.now steps.GoesOn telling after)
    (sym c.in-GoesOn.is) (c.show.ensures.0, (refl, refl, c.show.ensures.1))

pub returns-in-Again : goal.returns-in-Again
returns-in-Again c =
    let request = c.args.request in
    let client = c.args.client.now in
    let after : Sides = record { client = client; endpoint = side.Dialing request c.in-Again.dialing } in
    subst (λ next. (telling : Telling) × FollowsStreamed request next c.args.now client steps.DialsAgain telling after)
    (sym c.in-Again.is) (nothing, (refl, refl, refl))

pub returns-in-Whole : goal.returns-in-Whole
returns-in-Whole c =
    let after : Sides = record { client = c.end.new.client; endpoint = side.NoRequest } in
    subst (λ next. (telling : Telling) × FollowsStreamed c.args.request next c.args.now c.args.client.now c.end.result telling after)
    (sym c.in-Whole.is) (c.end.ensures.0, (refl, c.end.ensures.1))

pub returns-in-Refused : goal.returns-in-Refused
returns-in-Refused c =
    let after : Sides = record { client = c.refuse_with.new.client; endpoint = c.refuse_with.result.0 } in
    subst (λ next. (telling : Telling) × FollowsStreamed c.args.request next c.args.now c.args.client.now c.refuse_with.result.1 telling after)
    (sym c.in-Refused.is) c.refuse_with.ensures

pub returns-in-Cut : goal.returns-in-Cut
returns-in-Cut c =
    let after : Sides = record { client = c.cut_or_refuse.new.client; endpoint = c.cut_or_refuse.result.0 } in
    subst (λ next. (telling : Telling) × FollowsStreamed c.args.request next c.args.now c.args.client.now c.cut_or_refuse.result.1 telling after)
    (sym c.in-Cut.is) c.cut_or_refuse.ensures
