use Rattle.std.proofs.Common.{◌++◌, [], ◌∷◌, sym, ap, ◌∙◌, arith}
use Rattle.std.proofs.lemmas.Result.{IfErr-weaker}
use Rattle.bg_order_journal.specs.Refusals.{DeployFaultIs, FirstRowFaultIs}
use Rattle.bg_order_journal.proofs.FirstRows.{fault_of_entry, not_one, unnamed}
use Rattle.bg_order_journal.proofs.first_row.first_revision.Goals as goal

pub returns-in-Err-BadLine-clause-fault : goal.returns-in-Err-BadLine-clause-fault
returns-in-Err-BadLine-clause-fault c =
    let settings = c.args.settings.now in
    let h = c.in-Some.ensures.cases in
    unnamed settings c.args.row.now c.in-Some.rest.now (h.1.1 ∙ ap (λ t. settings ++ t) (sym h.2))
    (λ e name ports deploys journaled same. let other = c.in-Err-BadLine.ensures.each (e ∷ []) journaled same in cc)

pub returns-in-len1-clause-fault : goal.returns-in-len1-clause-fault
returns-in-len1-clause-fault c =
    let settings = c.args.settings.now in
    let row = c.args.row.now in
    let read = c.as_slice.result.now in
    let entry = c.entry-item.result in
    let h = c.in-Some.ensures.cases in
    IfErr-weaker c.deployed.result (DeployFaultIs entry) (FirstRowFaultIs settings row)
    (λ why. fault_of_entry settings row c.in-Some.rest.now read entry why (h.1.1 ∙ ap (λ t. settings ++ t) (sym h.2)) c.in-len1.len_at_least c.in-len1.len_below c.entry-item.is
    (λ e journaled same. c.as_slice.ensures.value ∙ c.in-Ok.ensures.each (e ∷ []) journaled same))
    c.deployed.ensures.fault

pub returns-in-empty-clause-fault : goal.returns-in-empty-clause-fault
returns-in-empty-clause-fault c =
    let h = c.in-Some.ensures.cases in
    not_one c.args.settings.now c.args.row.now c.in-Some.rest.now c.as_slice.result.now (h.1.1 ∙ ap (λ t. c.args.settings.now ++ t) (sym h.2)) (λ one. omega (arith, one))
    (λ e journaled same. c.as_slice.ensures.value ∙ c.in-Ok.ensures.each (e ∷ []) journaled same)

pub returns-clause-fault : goal.returns-clause-fault
returns-clause-fault c =
    let h = c.in-Some.ensures.cases in
    not_one c.args.settings.now c.args.row.now c.in-Some.rest.now c.as_slice.result.now (h.1.1 ∙ ap (λ t. c.args.settings.now ++ t) (sym h.2)) (λ one. omega (arith, one))
    (λ e journaled same. c.as_slice.ensures.value ∙ c.in-Ok.ensures.each (e ∷ []) journaled same)
