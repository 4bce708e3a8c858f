use Rattle.std.proofs.Common.{◌∙◌, ◌&&◌, ap, sym}
use Rattle.bg_http.specs.Persistences.{keeps}
use Rattle.bg_client_side.proofs.SoundLemmas.{sound_answer}
use Rattle.bg_client_side.specs.Clients.{Client, stays_after}
use Rattle.bg_client_side.proofs.client_connection.ClientConnection.answer.Goals as goal

pub invariant_of-self-2 : goal.invariant_of-self-2
invariant_of-self-2 c = (
  λ goes_on.
      let inside = c.self.inside in
      let persistence = c.args.persistence in
      let is = ap (λ (now : Client). keeps persistence && stays_after now) c.self.view_is
      ∙ sym c.goes_on_after.ensures ∙ goes_on in
      sound_answer inside.stream.is_open inside.stage inside.facts persistence c.self.invariant.0 is,
  tt,
  c.self.invariant.2,
)
