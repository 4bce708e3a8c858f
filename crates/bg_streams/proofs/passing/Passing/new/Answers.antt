use Rattle.std.proofs.Common.{◌≡◌, ap, refl, subst, sym, ◌∙◌}
use Rattle.bg_http.specs.Persistences.{keeps}
use Rattle.bg_relay.specs.Framings.{most_to_come}
use Rattle.bg_streams.specs.HeadTexts.{head_text}
use Rattle.bg_streams.specs.declared.passing.Passing.{Passing}
use Rattle.bg_streams.proofs.PassingLemmas.{starts}
use Rattle.bg_streams.proofs.passing.Passing.new.Goals as goal

pub returns : goal.returns
returns c =
    let relay = c.in_ok-relay.relay in
    let sides = c.in_ok-relay.ensures.sides in
    let kept = keeps c.args.terms.persistence in
    let passing : Passing = record {
      response = c.in_ok-response.response;
      framing = c.args.framing;
      head = c.in_ok-text.text;
      sent = 0;
      relay = relay;
    } in
    record {
      said = c.in_ok-response.ensures;
      framing_is = refl;
      incoming_is = sides.0 ∙ c.sides-sides.ensures.incoming;
      outgoing_is = sides.1 ∙ c.sides-sides.ensures.outgoing;
      window_is = sides.2;
      most_is = c.in_ok-relay.ensures.limit ∙ ap (λ named. most_to_come named c.args.terms.most_body) c.sides-sides.ensures.incoming;
      is_open = c.in_ok-relay.ensures.stage.1;
      delivers = starts passing kept refl
          (subst (λ named. c.in_ok-text.text.items ≡ head_text kept named c.in_ok-response.response) (c.outgoing.ensures ∙ sym sides.1)
          c.in_ok-text.ensures) c.in_ok-relay.ensures.stands;
    }
