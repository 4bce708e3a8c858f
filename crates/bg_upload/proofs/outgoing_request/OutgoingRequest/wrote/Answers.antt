use Rattle.std.proofs.Common.{◌≡◌, ◌+◌, ◌++◌, [], take, drop, ap, arith, sym, ◌∙◌, rules, take-append-drop}
use Rattle.std.proofs.Math.ListN.{drop_of_length-le}
use Rattle.std.proofs.lemmas.List.{drop-drop, take_min}
use Rattle.bg_upload.specs.OutgoingRequests.{with_written}
use Rattle.bg_upload.proofs.OutgoingLemmas.{body_sent, body_state, head_sent}
use Rattle.bg_upload.proofs.outgoing_request.OutgoingRequest.wrote.Goals as goal

pub invariant_of-self : goal.invariant_of-self
invariant_of-self c =
    let inside = c.self.inside in
    let s = c.self.invariant.1 in
    let head = inside.head.items in
    let sent = inside.sent in
    let count = c.min-written.result in
    let left = drop sent head in
    let whole : left ≡ take count left ++ drop (sent + count) head =
    sym (take-append-drop count left) ∙ ap (λ l. take count left ++ l) (drop-drop count sent head) in
    let written : c.add.new.self.bytes ≡ inside.written.bytes ++ take count left = search rules in (
      omega (arith, c.min-written.ensures, c.len-then-self-len.ensures, c.if-self-len.true, c.len.ensures),
      head_sent _ (drop (sent + count) head) c.add.new.self.bytes (take count left) s whole written,
    )

pub invariant_of-self-else-self-len : goal.invariant_of-self-else-self-len
invariant_of-self-else-self-len c =
    let inside = c.self.inside in
    let s = c.self.invariant.1 in
    let rest = inside.relay.rest in
    let none : drop inside.sent inside.head.items ≡ [] = drop_of_length-le inside.head.items (omega (arith, c.if-self-len.false, c.len.ensures)) in
    let written : c.add-else-self-len.new.self.bytes ≡ inside.written.bytes ++ take c.args.count rest =
    c.add-else-self-len.ensures
    ∙ ap (λ n. inside.written.bytes ++ take n c.rest-rest.result.now) c.min.ensures
    ∙ ap (λ l. inside.written.bytes ++ l) (take_min c.args.count c.rest-rest.result.now)
    ∙ ap (λ l. inside.written.bytes ++ take c.args.count l) c.rest-rest.ensures.rest in (
      c.self.invariant.0,
      body_sent _ c.wrote.new.self c.add-else-self-len.new.self.bytes c.args.count s none written c.wrote.ensures.stands c.wrote.ensures.state,
    )

pub returns-else-self-len : goal.returns-else-self-len
returns-else-self-len c =
    let inside = c.self.inside in
    let none : drop inside.sent inside.head.items ≡ [] = drop_of_length-le inside.head.items (omega (arith, c.if-self-len.false, c.len.ensures)) in
    let written : c.add-else-self-len.new.self.bytes ≡ inside.written.bytes ++ take c.args.count inside.relay.rest =
    c.add-else-self-len.ensures
    ∙ ap (λ n. inside.written.bytes ++ take n c.rest-rest.result.now) c.min.ensures
    ∙ ap (λ l. inside.written.bytes ++ l) (take_min c.args.count c.rest-rest.result.now)
    ∙ ap (λ l. inside.written.bytes ++ take c.args.count l) c.rest-rest.ensures.rest in
    body_state _ c.wrote.new.self c.add-else-self-len.new.self.bytes c.args.count none written c.wrote.ensures.state
    ∙ ap (with_written c.args.count) c.self.view_is
