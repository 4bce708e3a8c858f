use Rattle.std.proofs.Common.{rules, None, Some, ap, set, subst, sym, ◌∙◌}
use Rattle.std.proofs.lemmas.List.{set-set}
use Rattle.bg_control_port.proofs.Bounded.{asked_bounded}
use Rattle.bg_control_port.specs.Bounds.{IsBounded}
use Rattle.bg_control_port.specs.Registers.{Register}
use Rattle.bg_control_port.specs.Steps.{asked}
use Rattle.bg_control_port.specs.Turns.{row_after}
use Rattle.bg_control_port.proofs.connections.Connections.take_line.Goals as goal

pub replace-requires-2-clause-bounded : goal.replace-requires-2-clause-bounded
replace-requires-2-clause-bounded g c =
    let connection = c.in_ok-connection.connection in
    let bounded : IsBounded (Some connection) =
    subst IsBounded (sym c.replace.ensures.before ∙ c.in_ok-connection.was) (c.self.invariant.1 c.in_ok-key.key) in
    subst (λ x. IsBounded (Some x)) (sym c.take_line-asked.ensures.asked) (asked_bounded connection bounded)

pub returns : goal.returns
returns g c =
    let inside = c.self.inside in
    let places = inside.places.items in
    let key = c.in_ok-key.key in
    let new = c.take_line-asked.result.0 in
    let given = asked c.in_ok-connection.connection in
    let row = row_after inside.urgent_in_a_row c.in_ok-key.place.is_ahead in
    record {
      connection = c.in_ok-connection.connection;
      place = c.in_ok-key.place;
      was = search rules;
      first = search rules;
      line_is = search rules;
      peer_is = search rules;
      now = c.replace-2.ensures.place
          ∙ ap (λ (r : Register _). record r { places = set r.places key (Some new) }) c.replace.ensures.place
          ∙ ap (λ ps. record { places = ps; next_number = inside.next_number; urgent_in_a_row = c.row_after-self-inside.result })
          (set-set places key None (Some new))
          ∙ ap (λ r. record { places = set places key (Some new); next_number = inside.next_number; urgent_in_a_row = r })
          c.row_after-self-inside.ensures
          ∙ ap (λ d. record { places = set places key (Some d); next_number = inside.next_number; urgent_in_a_row = row })
          c.take_line-asked.ensures.asked
          ∙ ap (λ (r : Register _). record r {
            places = set r.places key (Some given);
            urgent_in_a_row = row_after r.urgent_in_a_row c.in_ok-key.place.is_ahead;
          }) c.self.view_is;
    }
