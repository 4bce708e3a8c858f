use Rattle.std.proofs.Common.{◌≡◌, ◌+◌, ◌<◌, ◌≤◌, ◌++◌, ◌∷◌, [], true, false, length, ap, ◌∙◌, arith}
use Rattle.std.proofs.lemmas.List.{length-append}
use Rattle.bg_operator.specs.declared.strategy_part.StrategyPart.TheVariants.{Whole, TooLarge}
use Rattle.bg_operator.specs.Taking.{TakesLine}
use Rattle.bg_operator.proofs.Marks.{Parting}
use Rattle.bg_operator.specs.Parting.{IsPart, at_mark, largest_strategy}
use Rattle.bg_operator.proofs.Pieces.{Known-both}
use Rattle.bg_operator.proofs.Marks.{mark_is, whole_at_mark, whole_without_break, part_goes_on, too_large, too_large_by_break}
use Rattle.bg_operator.proofs.strategy_part.part_before_script.Goals as goal

pub returns-then-is_mark : goal.returns-then-is_mark
returns-then-is_mark g c =
    let room = largest_strategy + 1 in
    let part = c.loop.part.items in
    let kept = c.take_line.new.line.items in
    let end = c.in_ok-end.end in
    Known-both (Parting part) (TakesLine room end kept) (IsPart (Whole c.loop.part)) _ _ _
    (λ xs ys zs p t.
    let m : at_mark ys ≡ true = cc (mark_is room end kept ys zs (omega arith) t) in
    whole_at_mark room largest_strategy end part kept xs ys zs p (omega arith) t m (omega arith))
    c.loop.invariant.taken c.in_ok-end.ensures

pub returns-then-len : goal.returns-then-len
returns-then-len g c =
    let room = largest_strategy + 1 in
    let part = c.loop.part.items in
    let kept = c.take_line.new.line.items in
    let end = c.in_ok-end.end in
    let far : largest_strategy < length part + length kept = omega arith in
    Known-both (Parting part) (TakesLine room end kept) (IsPart TooLarge) _ _ _
    (λ xs ys zs p t.
    let m : at_mark ys ≡ false = cc (mark_is room end kept ys zs (omega arith) t) in
    too_large room largest_strategy end part kept xs ys zs p t m far)
    c.loop.invariant.taken c.in_ok-end.ensures

pub returns-in_default : goal.returns-in_default
returns-in_default g c =
    let room = largest_strategy + 1 in
    let part = c.loop.part.items in
    let kept = c.take_line.new.line.items in
    let new = c.extend_from_slice.new.self.items in
    let end = c.in_ok-end.end in
    let grown : new ≡ part ++ kept = cc (c.in_ok-extend_from_slice.ensures.items) in
    let fits : length new ≤ largest_strategy = omega (arith, ap length grown, length-append part kept) in
    Known-both (Parting part) (TakesLine room end kept) (IsPart (Whole c.extend_from_slice.new.self)) _ _ _
    (λ xs ys zs p t.
    let m : at_mark ys ≡ false = cc (mark_is room end kept ys zs (omega arith) t) in
    whole_without_break room largest_strategy end part kept new xs ys zs p t c.in_default.not-Break m grown fits (omega arith))
    c.loop.invariant.taken c.in_ok-end.ensures

pub returns-then-len-ge-LARGEST_STRATEGY : goal.returns-then-len-ge-LARGEST_STRATEGY
returns-then-len-ge-LARGEST_STRATEGY g c =
    let room = largest_strategy + 1 in
    let part = c.loop.part.items in
    let kept = c.take_line.new.line.items in
    let new = c.extend_from_slice.new.self.items in
    let end = c.in_ok-end.end in
    let grown : new ≡ part ++ kept = cc (c.in_ok-extend_from_slice.ensures.items) in
    let far : largest_strategy ≤ length part + length kept = omega (arith, ap length grown, length-append part kept) in
    Known-both (Parting part) (TakesLine room end kept) (IsPart TooLarge) _ _ _
    (λ xs ys zs p t.
    let m : at_mark ys ≡ false = cc (mark_is room end kept ys zs (omega arith) t) in
    too_large_by_break room largest_strategy part kept xs ys zs p (rw c.in-Break.is at t) m far)
    c.loop.invariant.taken c.in_ok-end.ensures

pub loop-preserved : goal.loop-preserved
loop-preserved g c =
    let room = largest_strategy + 1 in
    let part = c.loop.part.items in
    let kept = c.take_line.new.line.items in
    let mid = c.extend_from_slice.new.self.items in
    let new = c.extend_from_slice-in-loop.new.self.items in
    let end = c.in_ok-end.end in
    let grown : mid ≡ part ++ kept = cc (c.in_ok-extend_from_slice.ensures.items) in
    let more : new ≡ mid ++ (10 ∷ []) = cc (c.in_ok-extend_from_slice-2.ensures.items) in
    let whole : new ≡ (part ++ kept) ++ (10 ∷ []) = more ∙ ap (λ l. l ++ (10 ∷ [])) grown in
    record {
      fits = omega (arith, ap length more, length-append mid (10 ∷ []));
      taken = Known-both (Parting part) (TakesLine room end kept) (Parting new) _ _ _
          (λ xs ys zs p t.
          let m : at_mark ys ≡ false = cc (mark_is room end kept ys zs (omega arith) t) in
          part_goes_on room part kept new xs ys zs p (rw c.in-Break.is at t) m whole)
          c.loop.invariant.taken c.in_ok-end.ensures;
    }
