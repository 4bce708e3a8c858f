use Rattle.std.proofs.Common.{[], ◌∷◌, ap, sym, ◌∙◌, arith}
use Rattle.bg_journal_store.proofs.Outcomes.{alone, same_head}
use Rattle.bg_journal_store.proofs.journal.is_version.Goals as goal

pub returns-in-len1 : goal.returns-in-len1
returns-in-len1 c =
    let only = alone c.args.texts.now c.text-item.result (omega (arith, c.in-len1.len_at_least)) (omega (arith, c.in-len1.len_below)) c.text-item.is in (
      λ equal. rw only (ap (λ t. t ∷ []) (sym c.as_str.ensures.value ∙ c.is_version_text.ensures.0 equal)),
      λ is. c.is_version_text.ensures.1 (c.as_str.ensures.value ∙ same_head (rw only at is)),
    )
