use Rattle.std.proofs.Common.{◌∙◌, Option, true, sym, subst}
use Rattle.bg_both_sides.proofs.AnswerLemmas.{entered_reply}
use Rattle.bg_both_sides.specs.Answers.{Reply}
use Rattle.bg_both_sides.specs.EndpointEvents.{RefusesEntered}
use Rattle.bg_both_sides.specs.Sides.{Sides}
use Rattle.bg_both_sides.specs.declared.endpoint_side.EndpointSide.TheVariants as side
use Rattle.bg_both_sides.proofs.both_sides.BothSides.refuse.Goals as goal

pub returns-in-Ok : goal.returns-in-Ok
returns-in-Ok c =
    let old = c.self.inside.client in
    let new = c.refuse.new.client in
    let now = c.args.now in
    let entered = sym c.in-Ok.ensures.entered ∙ c.replace.ensures.value in
    let reply = entered_reply c.in-Ok.request now old new c.refuse.ensures.0 c.refuse.ensures.1 in
    subst (λ (s : Sides). (reply : Option Reply)
    × RefusesEntered s.endpoint now s.client true reply (record { client = new; endpoint = c.replace.new.dest })) c.self.view_is
    (subst (λ after. (reply : Option Reply)
    × RefusesEntered c.self.inside.endpoint now old true reply (record { client = new; endpoint = after })) (sym c.replace.ensures.after)
    (subst (λ endpoint. (reply : Option Reply) × RefusesEntered endpoint now old true reply (record { client = new; endpoint = side.NoRequest }))
    entered reply))
