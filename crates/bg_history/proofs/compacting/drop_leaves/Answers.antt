use Rattle.std.proofs.Common.{◌≡◌, ◌<◌, ◌+◌, length, take, drop, get_or, ap, sym, ◌∙◌, arith, vec_len, vec_capacity}
use Rattle.bg_history.specs.declared.entry.Entry.{Entry}
use Rattle.bg_history.specs.declared.entry.Entry.TheVariants.{Tick}
use Rattle.bg_history.specs.Compacting.{is_leave}
use Rattle.std.proofs.lemmas.Option.{same_Some}
use Rattle.bg_history.proofs.Laying.{get-at}
use Rattle.bg_history.proofs.Looping.{at-now, rest-now, step-stays, step-goes}
use Rattle.bg_history.proofs.compacting.drop_leaves.Goals as goal
use Rattle.bg_history.proofs.compacting.drop_leaves.Goals.{then-not-is_leave, else-not-is_leave}

pub loop-place-preserved : goal.loop-place-preserved
loop-place-preserved c =
    let xs = c.args.entries.now.items in
    let ys = c.loop-place.entries.items in
    let i = c.loop-place.place in
    let d : Entry = Tick 0 in
    let v = c.loop-place.invariant in
    let lt : i < length xs = omega arith in
    let len : length ys ≡ length xs = omega arith in
    let within : i < length ys = omega arith in
    let at = at-now xs ys i d lt len v.rest in
    let here : is_leave (get_or xs i d) ≡ c.is_leave.result
    = ap is_leave (sym (same_Some _ _ (sym (get-at ys i c.index.result.now within) ∙ at)) ∙ sym c.index.ensures) ∙ sym c.is_leave.ensures in
    elim c.if-not-is_leave.branch [
      | then-not-is_leave w ↦
          record {
            before = omega (arith, w.kept-is, w.move_to-kept.ensures.most);
            len = ap vec_len w.entries-is ∙ w.move_to-kept.ensures.len ∙ v.len;
            capacity = ap vec_capacity w.entries-is ∙ w.move_to-kept.ensures.capacity ∙ v.capacity;
            taken = ap (λ k. take k c.if-not-is_leave.entries.items) w.kept-is ∙ ap (λ b. take w.move_to-kept.result b.items) w.entries-is ∙ w.move_to-kept.ensures.laid (get_or xs i d) at
                ∙ step-stays xs i d (take c.loop-place.kept ys) lt (here ∙ w.if-not-is_leave.true) v.taken;
            rest = ap (λ b. drop (i + 1) b.items) w.entries-is ∙ w.move_to-kept.ensures.rest ∙ rest-now xs ys i v.rest;
          }
      | else-not-is_leave w ↦
          record {
            before = omega (arith, w.kept-is);
            len = ap vec_len w.entries-is ∙ v.len;
            capacity = ap vec_capacity w.entries-is ∙ v.capacity;
            taken = ap (λ k. take k c.if-not-is_leave.entries.items) w.kept-is ∙ ap (λ b. take c.loop-place.kept b.items) w.entries-is ∙ v.taken
                ∙ step-goes xs i d lt (here ∙ w.if-not-is_leave.false);
            rest = ap (λ b. drop (i + 1) b.items) w.entries-is ∙ rest-now xs ys i v.rest;
          }
    ]
