use Rattle.std.proofs.Common.{map, string_bytes, subst, sym, ap, ◌∙◌, ◌++◌, ◌∷◌, [], List, ℕ, arith, take}
use Rattle.std.proofs.lemmas.List.{map_more}
use Rattle.bg_order_journal.specs.Refusals.{OrdersFaultIs}
use Rattle.bg_order_journal.specs.Starts.{AreSaid}
use Rattle.bg_order_journal.proofs.ReadOrders.{refused_at}
use Rattle.bg_order_journal.proofs.Refused.{if_err_is}
use Rattle.bg_order_journal.proofs.orders.read_orders.Goals as goal

pub loop-place-preserved : goal.loop-place-preserved
loop-place-preserved c =
    let texts = c.args.texts.now in
    let text = c.index-texts-place.result in
    let before = map string_bytes (take c.loop-place.place texts) in
    let more = c.in_ok-read_text.ensures.said before c.loop-place.invariant in
    let said = c.read_text.new.said in
    subst (λ (ts : List (List ℕ)). AreSaid ts said.entries.items said.numbers said.count)
    (ap (λ t. before ++ t ∷ []) c.as_str.ensures.value
    ∙ sym (map_more string_bytes texts c.loop-place.place text (omega arith) ∙ ap (λ t. before ++ string_bytes t ∷ []) (sym c.index-texts-place.is))) more

pub returns-in_err-read_text-clause-fault : goal.returns-in_err-read_text-clause-fault
returns-in_err-read_text-clause-fault c =
    let texts = c.args.texts.now in
    let text = c.index-texts-place.result in
    let said = c.loop-place.said in
    let why = c.in_err-read_text.field-0.0 in
    if_err_is (OrdersFaultIs (map string_bytes texts)) c.from_residual.result why c.from_residual.ensures.1
    (refused_at texts c.loop-place.place text said.entries.items said.numbers said.count why (omega arith) c.index-texts-place.is c.loop-place.invariant
    (rw c.as_str.ensures.value at c.in_err-read_text.ensures.order) (rw c.as_str.ensures.value at c.in_err-read_text.ensures.fault))
