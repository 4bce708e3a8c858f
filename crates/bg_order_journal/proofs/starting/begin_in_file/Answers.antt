use Rattle.std.proofs.Common.{◌≡◌, List, ℕ, [], ◌∷◌, ◌++◌, map, string_bytes, subst, sym, ap, ◌∙◌}
use Rattle.std.proofs.lemmas.List.{map-append}
use Rattle.sqlite.specs.Held.{state}
use Rattle.bg_journal.specs.Bounds.{bound_text}
use Rattle.bg_strategy_text.specs.Texts.{strategy_text}
use Rattle.bg_order_journal.specs.FirstRow.{first_row}
use Rattle.bg_order_journal.specs.Refusals.{FailsToBeginInFile, FailsToMove}
use Rattle.bg_order_journal.specs.Ties.{Ties}
use Rattle.bg_order_journal.proofs.Refused.{if_err_is, not_begun, not_moved}
use Rattle.bg_order_journal.proofs.starting.begin_in_file.Goals as goal

pub opened-requires-clause-tied : goal.opened-requires-clause-tied
opened-requires-clause-tied g c =
    let before = c.in_ok-journal.rows.items in
    let bound = c.in_ok-bound.bound in
    λ clean. subst (λ (rows : List (List ℕ)). Ties (state g.S.Store c.append_text.new.journal) rows [])
    (ap (λ t. map string_bytes before ++ t ∷ []) c.as_str.ensures.value
    ∙ sym (ap (map string_bytes) c.in_ok-push.ensures.items ∙ map-append string_bytes before (bound ∷ [])))
    (c.in_ok-append_text.ensures.tied (map string_bytes before) c.in_ok-journal.ensures.tied clean)

pub returns-in_err-orders-clause-fault : goal.returns-in_err-orders-clause-fault
returns-in_err-orders-clause-fault g c =
    let why = c.in_err-orders.field-0.0 in
    let first = first_row (strategy_text c.args.strategy.now) c.args.first.name c.args.first.ports in
    let second = bound_text c.args.numbers in
    let bound = c.in_ok-bound.bound in
    let all : c.opened.result.1.0 ≡ first ∷ second ∷ [] =
    c.opened.ensures.rows ∙ ap (map string_bytes) c.in_ok-push.ensures.items ∙ map-append string_bytes c.in_ok-journal.rows.items (bound ∷ [])
    ∙ ap (λ rows. rows ++ string_bytes bound ∷ []) c.in_ok-journal.ensures.rows ∙ ap (λ t. first ∷ t ∷ []) c.in_ok-bound.ensures in
    if_err_is (FailsToBeginInFile g.S.Store first second) c.from_residual-in_err-orders.result why c.from_residual-in_err-orders.ensures.1
    (not_moved g.S.Store first second why (subst (λ rows. FailsToMove g.S.Store rows why) all c.in_err-orders.ensures.fault))

pub returns-in_err-journal-clause-fault : goal.returns-in_err-journal-clause-fault
returns-in_err-journal-clause-fault g c =
    let why = c.in_err-journal.field-0.0 in
    let first = first_row (strategy_text c.args.strategy.now) c.args.first.name c.args.first.ports in
    let second = bound_text c.args.numbers in
    if_err_is (FailsToBeginInFile g.S.Store first second) c.from_residual-in_err-journal.result why c.from_residual-in_err-journal.ensures.1
    (not_begun g.S.Store (g.O.OpensJournal.fails c.args.opener) first second why c.in_err-journal.ensures.fault)
