use Rattle.std.proofs.Common.{inl, inr, [], ◌<◌, length, refl, subst, arith}
use Rattle.std.proofs.lemmas.List.{get_or_read_under}
use Rattle.std.proofs.lemmas.Result.{err_from_is_err_and}
use Rattle.bg_journal_store.specs.Failures.{FailsToShowTexts, HidesText}
use Rattle.bg_journal_store.proofs.reading.texts_of.Goals as goal

pub returns-in_err-text-clause-failed : goal.returns-in_err-text-clause-failed
returns-in_err-text-clause-failed c =
    let at = c.loop-row.row-index in
    let rows = c.args.rows.now in
    let low : at < length rows = omega (arith, c.loop-row-test.true) in
    let failed : FailsToShowTexts rows c.in_err-text.field-0.0 = elim c.in_err-text.ensures.failed [
      | inl memory ↦ inl memory
      | inr hides ↦ inr (at, low, subst (λ row. HidesText row c.in_err-text.field-0.0) (get_or_read_under rows at (length rows) c.row-item.result [] c.row-item.is low refl) hides)
    ] in
    let p = err_from_is_err_and c.from_residual.result c.from_residual.ensures.1 in
    rw (p.1, p.2) failed
