use Rattle.std.proofs.Common.{◌+◌, ◌<◌, ◌≤◌, ◌∷◌, ◌++◌, [], length, take, ap, sym, ◌∙◌, arith}
use Rattle.bg_history.specs.Compacting.{overwrites_at}
use Rattle.bg_history.proofs.Laying.{swap-taken, move_to-over, move_to-kept}
use Rattle.bg_history.proofs.compacting.move_to.Goals as goal
use Rattle.bg_history.proofs.compacting.move_to.Goals.{then-overwrites, else-overwrites}

pub returns-clause-laid : goal.returns-clause-laid
returns-clause-laid c e at =
    let xs = c.args.entries.now.items in
    let end = c.if-overwrites.end in
    let le : end ≤ c.args.place = elim c.if-overwrites.branch [ then-overwrites w ↦ omega (arith, w.end-is) | else-overwrites w ↦ omega (arith, w.end-is) ] in
    let within : c.args.place < length xs = omega arith in
    ap (take (end + 1)) c.swap.ensures.items
    ∙ swap-taken xs end c.args.place e le within at
    ∙ elim c.if-overwrites.branch [
      | then-overwrites w ↦
          ap (λ k. take k xs ++ e ∷ []) w.end-is
          ∙ move_to-over xs c.args.kept c.args.place e (ap (overwrites_at c.args.kept c.args.place) (sym c.deref.ensures.value) ∙ sym c.overwrites.ensures ∙ w.if-overwrites.true) c.requires.before within at
      | else-overwrites w ↦
          ap (λ k. take k xs ++ e ∷ []) w.end-is
          ∙ move_to-kept xs c.args.kept c.args.place e (ap (overwrites_at c.args.kept c.args.place) (sym c.deref.ensures.value) ∙ sym c.overwrites.ensures ∙ w.if-overwrites.false) c.requires.before within at
    ]
